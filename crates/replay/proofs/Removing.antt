-- Taking a range out of a table.
use Rattle.std.proofs.Common.{◌≡◌, ℕ, ◌+◌, true, ltb, Bool, false, cond, List, [], ◌∷◌, ◌++◌, length, take, drop, Some, None, Option, refl, ap, ◌∙◌, inl, inr, arith}
use Rattle.std.specs.List.{position, position_or_len}
use Rattle.std.proofs.lemmas.Grind.{common_steps}
use Rattle.std.proofs.lemmas.Bool.{cond-true, cond-false, cases_Bool}
use Rattle.interval.specs.Stretches.{rising, stop}
use Rattle.interval.proofs.Spans.{rises}
use Rattle.interval.proofs.Orders.{rising_from, rising_down}
use Rattle.model.specs.Ranges.{Range, same_range, listed, without}
use Rattle.replay.specs.CarryOut.{removed}

pub rising_without : (r : Range) (low : ℕ) (xs : List Range) → rising low xs ≡ true → rising low (without xs r) ≡ true
rising_without r low [] h = refl
rising_without r low (x ∷ xs) h =
    let p = rises low x xs h in
    elim (cases_Bool (same_range x r)) [
      | inl same ↦ ap (rising low) (cond-true _ _ _ same) ∙ rising_down (stop x) low xs (omega (arith, p.above)) p.rest
      | inr other ↦ ap (rising low) (cond-false _ _ _ other) ∙ rising_from low x (without xs r) p.above p.some p.under (rising_without r (stop x) xs p.rest)
    ]

-- how many ranges stand before the range
abbrev before : Range → List Range → ℕ
before r xs = position_or_len (λ x. same_range x r) xs

listed_is : (r : Range) (xs : List Range) → listed xs r ≡ ltb (before r xs) (length xs)
listed_is r [] = refl
listed_is r (x ∷ xs) = let rest = listed_is r xs in grind (arith, common_steps)

without_is : (r : Range) (xs : List Range) → without xs r ≡ take (before r xs) xs ++ drop (before r xs + 1) xs
without_is r [] = refl
without_is r (x ∷ xs) = let rest = without_is r xs in grind (arith, common_steps)

found_at : (b : Bool) (n at : ℕ) (o : Option ℕ) → o ≡ cond b (Some n) None → o ≡ Some at → (b ≡ true) × (n ≡ at)
found_at true n at o e is = let same : n ≡ at = cc in (refl, same)
found_at false n at o e is = absurd (let z : ◌≡◌ {A = ℕ} 0 1 = cc in omega arith)

found_not : (b : Bool) (n : ℕ) (o : Option ℕ) → o ≡ cond b (Some n) None → o ≡ None → b ≡ false
found_not true n o e is = absurd (let z : ◌≡◌ {A = ℕ} 0 1 = cc in omega arith)
found_not false n o e is = refl

-- a range that stands nowhere is not taken out
pub stays : (xs : List Range) (r : Range) (o : Option ℕ) → o ≡ position (λ x. same_range x r) xs → o ≡ None → removed xs r ≡ None
stays xs r o e is = cond-false _ _ _ (listed_is r xs ∙ found_not _ _ o e is)

-- a range that stands at a place is taken out there
pub takes_out : (xs : List Range) (at : ℕ) (r : Range) (o : Option ℕ) → o ≡ position (λ x. same_range x r) xs → o ≡ Some at → removed xs r ≡ Some (take at xs ++ drop (at + 1) xs)
takes_out xs at r o stands is =
    let found = found_at _ _ at o stands is in
    cond-true _ _ _ (listed_is r xs ∙ found.0) ∙ ap Some (without_is r xs ∙ ap (λ n. take n xs ++ drop (n + 1) xs) found.1)
