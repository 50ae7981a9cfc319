use Rattle.std.proofs.Common.{arith}
use Rattle.lexis.proofs.Glyphs.{front_more}
use Rattle.lexis.proofs.numbers.leading.Goals as goal

pub loop-digits-preserved : goal.loop-digits-preserved
loop-digits-preserved c =
    let e = c.in-Some.ensures in
    let i = c.loop-digits.invariant in
    (e.small, (λ h. absurd (omega arith)), λ h. front_more _ _ _ _ _ c.args.text.now (omega arith) (omega arith) e i.1 i.2)
