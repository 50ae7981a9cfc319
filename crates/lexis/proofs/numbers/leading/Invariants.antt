use Rattle.std.proofs.Common.{◌≡◌, ◌<◌, ◌≤◌, take}
use Rattle.lexis.specs.Numeral.{numeral}
use Rattle.lexis.proofs.numbers.leading.Given as goal

abbrev pub invariant-loop-digits : goal.invariant-loop-digits
invariant-loop-digits l = (l.value ≤ l.most) × (l.digits ≡ 0 → l.value ≡ 0) × (0 < l.digits → take l.digits l.text ≡ numeral 16 l.value)
