use Rattle.std.proofs.Common.{◌^◌, not, ap, ◌∙◌}
use Rattle.std.proofs.lemmas.Bool.{ltb-false}
use Rattle.tree.specs.Model.{model_of}
use Rattle.edits.specs.declared.edit.Edit.TheVariants.{Move}
use Rattle.edits.specs.Edited.{with_order, edited}
use Rattle.edits.specs.Rows.{child_rows, edit_rows}
use Rattle.edits.proofs.Limits.{low_from}
use Rattle.edits.proofs.Orders.{low_moved, moved_again}
use Rattle.edits.proofs.Sound.{all_passed, passes, unrefused}
use Rattle.edits.proofs.changes.move_region.Goals as goal

pub with_child-requires : goal.with_child-requires
with_child-requires c =
    let t = model_of c.args.tree.now.table in
    let high = ltb-false (2 ^ 40) c.args.offset (unrefused _ _ _ _ c.in_ok-check_offset.ensures) in
    low_moved _ c.args.offset _ t.attachments (low_from t.attachments c.args.tree.now.table.offsets) c.in_ok-attachment.ensures.1 high

pub returns : goal.returns
unfolding edited
returns c b =
    let t = model_of c.args.tree.now.table in
    let child = passes (child_rows t c.args.number) c.in_ok-child.ensures.0 in
    let found = rw c.in_ok-child.ensures.1.1 at c.in_ok-attachment.ensures in (
      all_passed (edit_rows b t (Move c.args.number c.args.offset)) (unrefused _ _ _ _ c.in_ok-check_offset.ensures, (child.0, (child.1.0, (ap not found.0, tt)))),
      c.with_child.ensures ∙ ap (with_order t) (moved_again c.args.number c.args.offset _ t.attachments (low_from t.attachments c.args.tree.now.table.offsets) found.1),
    )
