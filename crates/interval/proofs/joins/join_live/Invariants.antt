use Rattle.interval.proofs.Joining.{PartJoined}
use Rattle.interval.proofs.joins.join_live.Given as goal

abbrev pub invariant-loop-k : goal.invariant-loop-k
invariant-loop-k g l = PartJoined g.L.Label.advanced g.L.SameLabel.matches l.initial.table l.used l.k l.done l.last l.table
