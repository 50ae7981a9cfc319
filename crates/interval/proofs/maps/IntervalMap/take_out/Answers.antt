use Rattle.std.proofs.Common.{◌-◌, take, ap, ◌∙◌, arith}
use Rattle.interval.specs.Stretches.{rising}
use Rattle.interval.specs.Maps.{live}
use Rattle.interval.proofs.Removing.{rising_out, taken_out}
use Rattle.interval.proofs.maps.IntervalMap.take_out.Goals as goal

pub invariant_of-self-clause-rises : goal.invariant_of-self-clause-rises
invariant_of-self-clause-rises g c =
    let m = c.args.self.now in
    ap (λ xs. rising 0 (take (m.used - 1) xs)) c.copy_within.ensures.after
    ∙ ap (rising 0) (taken_out m.records m.used c.args.place c.if-place-self.true (omega (arith, m.whole, m.fits)))
    ∙ rising_out c.args.place 0 (live m) m.rises

pub returns-then-place-self : goal.returns-then-place-self
returns-then-place-self g c =
    let m = c.args.self.now in
    ap (take (m.used - 1)) c.copy_within.ensures.after ∙ taken_out m.records m.used c.args.place c.if-place-self.true (omega (arith, m.whole, m.fits))
