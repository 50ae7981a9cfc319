use Rattle.std.proofs.Common.{◌≡◌, drop}
use Rattle.interval.specs.Maps.{live}
use Rattle.replay.specs.CarryOut.{carry_from}
use Rattle.replay.proofs.carry.carry_all.Given as goal

-- the first i entries are carried out, and the others are left
abbrev pub invariant-loop-i : goal.invariant-loop-i
invariant-loop-i l = carry_from 256 0 l.changes (live l.initial.held) ≡ carry_from 256 l.i (drop l.i l.changes) (live l.held)
