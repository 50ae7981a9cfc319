use Rattle.changes.proofs.Tables.{read_line, read_no_line, unwritable}
use Rattle.changes.proofs.read.change_at.Goals as goal

pub returns-in_err-change : goal.returns-in_err-change
returns-in_err-change c = rw c.from_residual.ensures (read_no_line _ _ _ c.new-reader.ensures.rest c.new-reader.ensures.lost _ c.shaped_line.ensures c.in_err-change.ensures.value)

pub returns-then-not-is_writable : goal.returns-then-not-is_writable
returns-then-not-is_writable c =
    unwritable _ _ _ _ (read_line _ _ _ c.new-reader.ensures.rest _ _ c.shaped_line.ensures c.in_ok-change.ensures.value) c.is_writable.ensures c.if-not-is_writable.true
