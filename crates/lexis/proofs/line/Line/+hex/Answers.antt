use Rattle.std.proofs.Common.{◌/◌, sym, subst, inl, inr}
use Rattle.lexis.specs.Numeral.{numeral}
use Rattle.lexis.specs.Shown.{Adds}
use Rattle.lexis.proofs.Puts.{adds_hex}
use Rattle.lexis.proofs.line.Line.+hex.Goals as goal
use Rattle.lexis.proofs.line.Line.+hex.Goals.{then-n-ge16, else-n-ge16}

pub returns : goal.returns
returns t c =
    adds_hex _ c.if-n-ge16.self _ _ _ c.glyph_of.ensures
    (elim c.if-n-ge16.branch [
      | then-n-ge16 w ↦ inr (w.if-n-ge16.true, subst (λ m. Adds c.args.self.now (numeral 16 (c.args.n / 16)) m) (sym w.self-is) w.hex.ensures)
      | else-n-ge16 w ↦ inl (w.if-n-ge16.false, w.self-is)
    ])
    c.push.ensures
