use Rattle.std.proofs.Common.{◌+◌, ◌≤◌, length}
use Rattle.changes.proofs.Tables.{Sofar}
use Rattle.changes.proofs.read.count_lines.Given as goal

abbrev pub invariant-loop-line : goal.invariant-loop-line
invariant-loop-line l = Sofar l.bytes l.line-iterator.0.now l.n × (l.n + length l.line-iterator.0.now ≤ length l.bytes)
