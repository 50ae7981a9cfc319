use Rattle.std.proofs.Common.{◌≡◌, ◌-◌}
use Rattle.sweep.specs.Maps.{to_come}
use Rattle.sweep.proofs.walks.WalkIterator.next.Given as goal

abbrev pub invariant-loop-self : goal.invariant-loop-self
invariant-loop-self g l =
    to_come g.S.Shown.Label.advanced g.S.Shown.SameLabel.matches (g.S.Source.shows l.self.source.now) l.self.size l.self.address l.self.last
    ≡ to_come g.S.Shown.Label.advanced g.S.Shown.SameLabel.matches (g.S.Source.shows l.initial.self.source.now) l.initial.self.size l.initial.self.address l.initial.self.last

abbrev pub decreases-loop-self : goal.decreases-loop-self
decreases-loop-self g l = l.self.size - l.self.address
