use Rattle.std.proofs.Common.{[]}
use Rattle.lexis.proofs.Picks.{chosen_some}
use Rattle.lexis.proofs.Chains.{moves_after, fails_before, fails_as}
use Rattle.changes.proofs.read.choice_after.Goals as goal

pub returns-in_err-literal : goal.returns-in_err-literal
returns-in_err-literal g c = fails_as _ _ _ _ _ c.from_residual.ensures.1 (fails_before _ _ (chosen_some _ _ [] g.met.K.Keyword.lawful) _ _ _ c.in_err-literal.ensures)

pub returns : goal.returns
returns g c = moves_after _ _ _ _ _ _ c.in_ok-literal.ensures c.choice.ensures
