use Rattle.std.proofs.Common.{◌≡◌, drop}
use Rattle.telling.specs.Telling.{told_all}
use Rattle.telling.proofs.tell.tell.Given as goal

abbrev pub invariant-loop-change : goal.invariant-loop-change
invariant-loop-change g l = told_all (g.L.Listener.hearing l.listener) (drop l.change-index l.list) ≡ told_all (g.L.Listener.hearing l.initial.listener) l.list
