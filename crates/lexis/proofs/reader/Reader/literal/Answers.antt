use Rattle.std.proofs.Common.{refl, arith, rules}
use Rattle.lexis.proofs.Picks.{agree_right}
use Rattle.lexis.proofs.Steps.{literal_goes, literal_fails}
use Rattle.lexis.proofs.reader.Reader.literal.Goals as goal

pub skip-requires-clause-inside : goal.skip-requires-clause-inside
skip-requires-clause-inside c = omega (arith, c.common-n.ensures, agree_right c.args.text.now c.args.self.now.rest.now)

pub returns-then-n-text : goal.returns-then-n-text
returns-then-n-text c = literal_fails _ _ _ _ (search rules) c.common-n.ensures c.skip.ensures.rest c.skip.ensures.column _ refl refl c.if-n-text.true

pub returns : goal.returns
returns c = literal_goes _ _ _ _ (search rules) c.common-n.ensures c.skip.ensures.rest c.skip.ensures.column c.skip.ensures.going c.if-n-text.false
