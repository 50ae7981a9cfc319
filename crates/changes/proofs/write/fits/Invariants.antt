use Rattle.changes.proofs.Texts.{Passed}
use Rattle.changes.proofs.write.fits.Given as goal

abbrev pub invariant-loop-change : goal.invariant-loop-change
invariant-loop-change l = Passed l.changes l.room l.change-index l.n
