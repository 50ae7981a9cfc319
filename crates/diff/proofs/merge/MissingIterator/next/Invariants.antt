use Rattle.std.proofs.Common.{◌≡◌, length}
use Rattle.diff.specs.Merge.{left_over}
use Rattle.diff.proofs.merge.MissingIterator.next.Given as goal

abbrev pub invariant-loop-range : goal.invariant-loop-range
invariant-loop-range l = left_over l.self ≡ left_over l.initial.self

abbrev pub decreases-loop-range : goal.decreases-loop-range
decreases-loop-range l = length l.self.left.live.now
