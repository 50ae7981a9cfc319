-- What a row shows at the one address that is sighted.
use Rattle.std.proofs.Common.{◌≡◌, ℕ, ◌+◌, ◌-◌, true, Some, sym, ap, ◌∙◌, arith}
use Rattle.std.proofs.lemmas.Bool.{cond-true}
use Rattle.interval.specs.declared.stretches.Stretch.{Stretch}
use Rattle.interval.specs.Stretches.{holds}
use Rattle.interval_tests.specs.declared.offsets.Offset.{Offset}
use Rattle.interval_tests.specs.Offsets.{moved, shown}
use Rattle.interval_tests.specs.SameOffset.{moved_zero}

pub sighted : (s : Stretch Offset) (a i : ℕ) (x : Offset) → i ≡ 0 → holds s a ≡ true → x ≡ moved s.label (a - s.start) → shown s (a + i) ≡ Some (moved x i)
sighted s a i x none h label =
    let here : a + i ≡ a = omega arith in
    ap (shown s) here ∙ cond-true _ _ _ h ∙ ap Some (sym label ∙ sym (moved_zero x) ∙ ap (moved x) (sym none))
