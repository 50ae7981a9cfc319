use Rattle.lexis.proofs.Words.{number_some}
use Rattle.lexis.proofs.Chains.{moves_after, fails_before, fails_as}
use Rattle.changes.proofs.read.number_after.Goals as goal

pub returns-in_err-literal-clause-moves : goal.returns-in_err-literal-clause-moves
returns-in_err-literal-clause-moves c = fails_as _ _ _ _ _ c.from_residual.ensures.1 (fails_before _ _ (number_some _ _ _) _ _ _ c.in_err-literal.ensures)

pub returns-clause-moves : goal.returns-clause-moves
returns-clause-moves c = moves_after _ _ _ _ _ _ c.in_ok-literal.ensures c.number.ensures.moves
