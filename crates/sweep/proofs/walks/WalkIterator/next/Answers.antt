use Rattle.std.proofs.Common.{sym, rules}
use Rattle.sweep.proofs.Counting.{last_given}
use Rattle.sweep.proofs.walks.WalkIterator.next.Goals as goal

pub returns-clause-steps : goal.returns-clause-steps
returns-clause-steps g c =
    let w = c.loop-self.self in
    last_given g.S.Shown.Label.advanced g.S.Shown.SameLabel.matches (g.S.Source.shows w.source.now) w.size w.address w.last c.take.new.self _ c.take.result (sym c.loop-self.invariant) c.loop-self-test.false c.take.ensures.value c.take.ensures.after

pub returns-clause-goes : goal.returns-clause-goes
returns-clause-goes g c = let steps = returns-clause-steps g c in search rules
