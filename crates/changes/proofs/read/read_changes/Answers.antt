use Rattle.changes.proofs.Outcomes.{read_short, read_some}
use Rattle.changes.proofs.read.read_changes.Goals as goal

pub returns-then-n-records : goal.returns-then-n-records
returns-then-n-records c = read_short _ _ _ c.in_ok-n.ensures c.if-n-records.true

pub returns : goal.returns
returns c = read_some _ _ _ c.in_ok-n.ensures _ c.if-n-records.false c.store_changes.ensures
