use Rattle.std.proofs.Common.{not, take, drop, ap, ◌∙◌}
use Rattle.std.proofs.lemmas.Result.{err_from_is_err_and}
use Rattle.tree.specs.Model.{model_of}
use Rattle.edits.specs.Rows.{attach_rows, is_container}
use Rattle.edits.proofs.Sound.{Passed, unrefused, refused, passed_then, known}
use Rattle.edits.proofs.changes.check_attachment.Goals as goal

pub returns-in_err-check_unattached : goal.returns-in_err-check_unattached
returns-in_err-check_unattached c =
    let p = err_from_is_err_and c.from_residual-in_err-check_unattached.result c.from_residual-in_err-check_unattached.ensures.1 in
    let t = model_of c.args.tree.now.table in
    let rows = attach_rows t c.args.number c.args.parent c.args.offset in
    let child = c.in_ok-child.ensures in
    let holder = c.in_ok-holder.ensures in
    let five : Passed (take 5 rows) = (
      unrefused _ _ _ _ c.in_ok-check_offset.ensures,
      (
        known t _ _ child.0 child.1,
        (
          known t _ _ holder.0 holder.1,
          (
            unrefused _ _ _ _ c.in_ok-check_no_root.ensures,
            (ap (λ o. not (is_container o)) holder.1 ∙ unrefused _ _ _ _ c.in_ok-check_container.ensures, tt),
          ),
        ),
      ),
    ) in
    rw (p.1, p.2) (passed_then (take 5 rows) (drop 5 rows) five ∙ refused _ _ _ _ _ (rw child.2 at c.in_err-check_unattached.ensures))
