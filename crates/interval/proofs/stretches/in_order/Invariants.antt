use Rattle.std.proofs.Common.{◌≡◌, drop}
use Rattle.interval.specs.Stretches.{rising}
use Rattle.interval.proofs.stretches.in_order.Given as goal

abbrev pub invariant-loop-s : goal.invariant-loop-s
invariant-loop-s g l = rising 0 l.live ≡ rising l.low (drop l.s-index l.live)
