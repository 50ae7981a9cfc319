use Rattle.std.proofs.Common.{not, eqb, ◌∙◌, ap}
use Rattle.std.proofs.ByRecursion.{all_kept_by}
use Rattle.tree.specs.Bounds.{bounded_attachments}
use Rattle.tree.specs.Listed.{listed}
use Rattle.edits.specs.Limits.{Low}
use Rattle.edits.proofs.Limits.{low_from, from_low}
use Rattle.edits.proofs.tables.without_child.Goals as goal

pub invariant_of-table-clause-offsets : goal.invariant_of-table-clause-offsets
invariant_of-table-clause-offsets c =
    let cs = listed c.args.table.order in
    ap bounded_attachments c.take_out.ensures ∙ from_low _ (all_kept_by (λ d. not (eqb d.child c.args.number)) Low cs (low_from cs c.args.table.offsets))
