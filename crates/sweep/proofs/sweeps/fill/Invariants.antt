use Rattle.sweep.specs.Maps.{stretches, to_come}
use Rattle.sweep.proofs.Counting.{Filled}
use Rattle.sweep.proofs.sweeps.fill.Given as goal

abbrev pub invariant-loop-s : goal.invariant-loop-s
invariant-loop-s g l =
    let adv = g.S.Shown.Label.advanced in
    let same = g.S.Shown.SameLabel.matches in
    let w = l.s-iterator in
    (goal.iterator-loop-s g).can_next w × (goal.iterator-loop-s g).is_finite w
    × Filled (stretches adv same (g.S.Source.shows l.source) 0 l.size) l.initial.table (to_come adv same (g.S.Source.shows w.source.now) w.size w.address w.last) l.count l.table
