use Rattle.std.proofs.Common.{rules}
use Rattle.bank.proofs.Writes.{altered}
use Rattle.bank.proofs.pair.PairBank.write.Goals as goal

pub returns-in-First-clause-alters : goal.returns-in-First-clause-alters
returns-in-First-clause-alters g c = altered _ _ _ _ _ (search rules)

pub returns-in-Second-clause-alters : goal.returns-in-Second-clause-alters
returns-in-Second-clause-alters g c = altered _ _ _ _ _ (search rules)
