use Rattle.sweep.proofs.Before.{Labels}
use Rattle.sweep.proofs.Stepping.{step_none, step_first, step_longer, step_ended}
use Rattle.sweep.proofs.walks.Walk.step.Given as given
use Rattle.sweep.proofs.walks.Walk.step.Goals as goal

laws : (g : given.Over) → Labels g.S.Shown.Label.advanced g.S.Shown.SameLabel.matches
laws g = record { zero = g.met.S.Shown.Label.zero; sum = g.met.S.Shown.Label.sum; exact = g.met.S.Shown.SameLabel.exact }

pub returns-in_default-clause-gives : goal.returns-in_default-clause-gives
returns-in_default-clause-gives g c = step_none _ _ (laws g) _ c.args.self.now.size c.args.self.now.address c.args.self.now.last c.sight-seen.result c.sight-seen.ensures c.requires c.in_default.is

pub returns-in_default-last-clause-gives : goal.returns-in_default-last-clause-gives
returns-in_default-last-clause-gives g c = step_first _ _ (laws g) _ c.args.self.now.size c.args.self.now.address c.args.self.now.last c.sight-seen.result c.sight-seen.ensures c.requires c.in-Some.label c.in-Some.is c.in_default-last.is

pub returns-in-Some-extended-clause-gives : goal.returns-in-Some-extended-clause-gives
returns-in-Some-extended-clause-gives g c = step_longer _ _ (laws g) _ c.args.self.now.size c.args.self.now.address c.args.self.now.last c.sight-seen.result c.sight-seen.ensures c.requires c.in-Some.label c.in-Some.is c.in-Some-last.s c.in-Some-last.is c.in-Some-extended.longer c.in-Some-extended.ensures

pub returns-clause-gives : goal.returns-clause-gives
returns-clause-gives g c = step_ended _ _ (laws g) _ c.args.self.now.size c.args.self.now.address c.args.self.now.last c.sight-seen.result c.sight-seen.ensures c.requires c.in-Some.label c.in-Some.is c.in-Some-last.s c.in-Some-last.is c.in_default-extended.ensures
