use Rattle.std.proofs.Common.{refl, lit<}
use Rattle.std.proofs.lemmas.List.{take-replicate}
use Rattle.bank.specs.Soundness.{replicate_small}
use Rattle.bank.proofs.front.Front.zeros.Goals as goal

pub invariant_of-result : goal.invariant_of-result
invariant_of-result c = record { whole = refl; within = c.requires; small = replicate_small 8192 0 (lit< tt) }

pub returns-clause-shown : goal.returns-clause-shown
returns-clause-shown c = take-replicate c.args.len 8192 0 c.requires
