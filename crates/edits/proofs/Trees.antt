-- What a tree's own fields say of its model.
use Rattle.tree.specs.declared.tree.Tree.{Tree}
use Rattle.tree.specs.Model.{model_of}
use Rattle.edits.proofs.Limits.{low_from, fine_from}
use Rattle.edits.proofs.Sound.{Sound}

pub sound_tree : (t : Tree) → Sound (model_of t.table)
sound_tree t = record {
  numbered = t.table.numbered;
  fine = fine_from (model_of t.table).regions t.table.sizes;
  well = record { low = low_from (model_of t.table).attachments t.table.offsets; single = t.table.order.single; ranked = t.table.order.ranked };
  short = t.short;
}
