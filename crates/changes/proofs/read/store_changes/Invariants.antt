use Rattle.std.proofs.Common.{◌≡◌, ◌++◌, drop}
use Rattle.changes.proofs.Tables.{Sofar}
use Rattle.changes.proofs.read.store_changes.Given as goal

abbrev pub invariant-loop-record : goal.invariant-loop-record
invariant-loop-record l = (s : Sofar l.bytes l.lines.0.now l.record-index) × (l.records ≡ s.list ++ drop l.record-index l.initial.records)
