-- What is sighted in a rising list of ranges: only the first that does not end by the address counts.
use Rattle.std.proofs.Common.{◌≡◌, ℕ, ◌+◌, ◌-◌, ◌<◌, ◌≤◌, min, true, false, List, [], ◌∷◌, drop, Some, None, sym, refl, ap, ◌∙◌, subst, inl, inr, one-add, arith}
use Rattle.std.proofs.lemmas.Bool.{lt-leb, le-leb, cond-true, cond-false, cases_lt}
use Rattle.std.proofs.lemmas.Bool.Decides.{nat_tests}
use Rattle.std.proofs.lemmas.Option.{none-some}
use Rattle.std.specs.List.{slice_get}
use Rattle.interval.specs.Edits.{ended}
use Rattle.interval.specs.Stretches.{at, holds, rising, stop}
use Rattle.interval.proofs.AtLaws.{at_yes, at_not}
use Rattle.interval.proofs.Spans.{rises}
use Rattle.sweep.specs.Sights.{Sees}
use Rattle.model.specs.declared.places.Place.{Place}
use Rattle.model.specs.Places.{moved}
use Rattle.model.specs.Ranges.{Range}
use Rattle.flat.proofs.Placed.{place_laws}

abbrev pub rest : ℕ → List Range → List Range
rest a xs = drop (ended a xs) xs

ends_above : (a : ℕ) (x : Range) (xs : List Range) → a < stop x → rest a (x ∷ xs) ≡ x ∷ xs
ends_above a x xs over = ap (λ n. drop n (x ∷ xs)) (cond-false _ _ _ (lt-leb _ _ over))

ends_below : (a : ℕ) (x : Range) (xs : List Range) → stop x ≤ a → rest a (x ∷ xs) ≡ rest a xs
ends_below a x xs under = ap (λ n. drop n (x ∷ xs)) (cond-true _ _ _ (le-leb _ _ under) ∙ one-add (ended a xs))

-- those before hold no address from this one on
at_rest : (a i : ℕ) (xs : List Range) → at moved xs (a + i) ≡ at moved (rest a xs) (a + i)
at_rest a i [] = refl
at_rest a i (x ∷ xs) = elim (cases_lt a (stop x)) [
  | inl over ↦ sym (ap (λ ys. at moved ys (a + i)) (ends_above a x xs over))
  | inr under ↦ (let out : holds x (a + i) ≡ false = grind (arith, nat_tests) in
      at_not moved (a + i) x xs out ∙ at_rest a i xs ∙ sym (ap (λ ys. at moved ys (a + i)) (ends_below a x xs under)))
]

-- the first ends above the address, and those behind it rise from its end
abbrev pub Ahead : ℕ → List Range → Type 0
Ahead a [] = Unit {0}
Ahead a (y ∷ ys) = (a < stop y) × (rising (stop y) ys ≡ true)

pub ahead : (a low : ℕ) (xs : List Range) → rising low xs ≡ true → Ahead a (rest a xs)
ahead a low [] r = tt
ahead a low (x ∷ xs) r = elim (cases_lt a (stop x)) [
  | inl over ↦ subst (Ahead a) (sym (ends_above a x xs over)) (over, (rises low x xs r).rest)
  | inr under ↦ subst (Ahead a) (sym (ends_below a x xs under)) (ahead a (stop x) xs (rises low x xs r).rest)
]

none_below : (low b : ℕ) (xs : List Range) → rising low xs ≡ true → b < low → at moved xs b ≡ None
none_below low b [] r h = refl
none_below low b (x ∷ xs) r h =
    let p = rises low x xs r in
    let above = p.above in
    let out : holds x b ≡ false = grind (arith, nat_tests) in
    at_not moved b x xs out ∙ none_below (stop x) b xs p.rest (omega (arith, p.above))

head_of : (ys : List Range) (y : Range) → Some y ≡ slice_get ys 0 → ys ≡ y ∷ drop 1 ys
head_of [] y e = absurd (none-some _ (sym e))
head_of (x ∷ ys) y e = cc

none_of : (ys : List Range) → None ≡ slice_get ys 0 → ys ≡ []
none_of [] e = refl
none_of (x ∷ ys) e = absurd (none-some _ e)

-- `ys` are the ranges that do not end by the address
module _ (xs : List Range) (r : rising 0 xs ≡ true) (a limit : ℕ) (ys : List Range) (is_rest : ys ≡ rest a xs) where
  -- there is none
  pub sees_end : None ≡ slice_get ys 0 → Sees moved (at moved xs) a limit (record { label = None; extent = limit })
  sees_end e = record {
    within = omega arith;
    some = λ p. p;
    same = λ i lt. at_rest a i xs ∙ ap (λ ys. at moved ys (a + i)) (sym is_rest ∙ none_of ys e);
  }

  module _ (y : Range) (e : Some y ≡ slice_get ys 0) where
    head : rest a xs ≡ y ∷ drop 1 ys
    head = sym is_rest ∙ head_of ys y e

    h : Ahead a (y ∷ drop 1 ys)
    h = subst (Ahead a) head (ahead a 0 xs r)

    here : (i : ℕ) → at moved xs (a + i) ≡ at moved (y ∷ drop 1 ys) (a + i)
    here i = at_rest a i xs ∙ ap (λ zs. at moved zs (a + i)) head

    pub reaches : y.start ≤ a → a - y.start ≤ y.length
    reaches low = let over = h.0 in omega arith

    -- the first of them begins above the address
    pub sees_above : (n : ℕ) → a < y.start → n ≡ min limit (y.start - a) → Sees moved (at moved xs) a limit (record { label = None; extent = n })
    sees_above n above is = record {
      within = omega arith;
      some = λ p. omega arith;
      same = λ i lt.
          let out : holds y (a + i) ≡ false = grind (arith, nat_tests) in
          here i ∙ at_not moved (a + i) y (drop 1 ys) out ∙ none_below (stop y) (a + i) (drop 1 ys) h.1 (omega arith);
    }

    -- it holds the address
    pub sees_here : (p : Place) (n : ℕ) → y.start ≤ a → p ≡ moved y.label (a - y.start) → n ≡ min limit (y.length - (a - y.start)) → Sees moved (at moved xs) a limit (record { label = Some p; extent = n })
    sees_here p n low is count = let over = h.0 in record {
      within = omega arith;
      some = λ q. omega arith;
      same = λ i lt.
          let own : holds y (a + i) ≡ true = grind (arith, nat_tests) in
          let far : (a + i) - y.start ≡ (a - y.start) + i = omega arith in
          here i ∙ at_yes moved (a + i) y (drop 1 ys) own ∙ ap Some (ap (moved y.label) far ∙ sym (place_laws.sum y.label (a - y.start) i) ∙ ap (λ q. moved q i) (sym is));
    }
