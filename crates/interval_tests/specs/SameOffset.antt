-- The laws of an offset as a label.
use Rattle.std.specs.Prelude.{◌≡◌, ℕ, ◌+◌, ◌%◌, ◌^◌, ◌<◌, Decides}
use Rattle.std.proofs.Common.{ap, ◌∙◌, add-zero, add_assoc, mod-eq_of_lt}
use mathlib.Core.HLevel.{is_prop→PathP}
use Rattle.std.proofs.Math.Bridge.{le_prop}
use Rattle.std.proofs.Math.Nat.{mod-add-mod}
use Rattle.std.proofs.lemmas.Bool.Decides.{Decides-eqb, Decides-like}
use Rattle.interval_tests.specs.declared.offsets.Offset.{Offset}
use Rattle.interval_tests.specs.Offsets.{moved, alike}

pub same_offset : (x y : Offset) → x.value ≡ y.value → x ≡ y
same_offset x y e = λ i. record { value = e i; fits = is_prop→PathP (λ j. e j < 2 ^ 64) (λ j. le_prop) x.fits y.fits i }

pub moved_zero : (x : Offset) → moved x 0 ≡ x
moved_zero x = same_offset (moved x 0) x (ap (λ n. n % 2 ^ 64) (add-zero x.value) ∙ mod-eq_of_lt x.fits)

pub moved_sum : (x : Offset) (i j : ℕ) → moved (moved x i) j ≡ moved x (i + j)
moved_sum x i j = same_offset (moved (moved x i) j) (moved x (i + j)) (mod-add-mod (x.value + i) (2 ^ 64) j ∙ ap (λ n. n % 2 ^ 64) (add_assoc x.value i j))

pub alike_exact : (x y : Offset) → Decides (alike x y) (x ≡ y)
alike_exact x y = Decides-like (alike x y) (same_offset x y) (ap (λ z. z.value)) (Decides-eqb x.value y.value)
