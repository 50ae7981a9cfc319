-- The search by halving, and what is found in a list.
use Rattle.std.proofs.Common.{◌≡◌, ℕ, zero, suc, ◌+◌, ◌<◌, ◌≤◌, Bool, true, false, leb, List, [], ◌∷◌, length, get_or, cond, Some, None, Option, sym, refl, ap, ◌∙◌, subst, inl, inr, one-add, arith}
use mathlib.Core.List.Memᴰ
use mathlib.Core.List.{Memᴰ}
use Rattle.std.specs.List.{prefix_len}
use Rattle.std.specs.List.Sorted.{IsNonDecreasingBy, IsPartitionPoint}
use Rattle.std.proofs.lemmas.Bool.{and_left, and_right, lt-leb, le-ltb, le-leb, cond-true, cond-false, cases_lt, cases_Bool}
use Rattle.std.proofs.lemmas.List.Sums.{prefix_len-le-length, prefix_len_is}
use Rattle.interval.specs.declared.stretches.Stretch.{Stretch}
use Rattle.interval.specs.Edits.{ended}
use Rattle.interval.specs.Stretches.{rising, stop, holds, found}
use Rattle.interval.specs.Laws.{Finds}
use Rattle.interval.proofs.Spans.{rises}

-- what is found is a live stretch that holds the address, and none only where no live one does
finds : {L : Type 0} (xs : List (Stretch L)) (a : ℕ) → Finds xs a (found xs a)
finds [] a = λ s m. absurd (Memᴰ.not-nil m)
finds {L} (x ∷ xs) a =
    elim (cases_Bool (holds x a)) [
      | inl h ↦ subst (Finds (x ∷ xs) a) (sym (cond-true (holds x a) (Some x) (found xs a) h)) (Memᴰ.head refl, h)
      | inr h ↦ subst (Finds (x ∷ xs) a) (sym (cond-false (holds x a) (Some x) (found xs a) h)) (on (found xs a) h (finds xs a))
    ]
  where
    on : (o : Option (Stretch L)) → holds x a ≡ false → Finds xs a o → Finds (x ∷ xs) a o
    on (Some s) h f = (Memᴰ.tail f.0, f.1)
    on None h f = λ s m. elim (Memᴰ.cases_cons m) [ inl e ↦ ap (λ z. holds z a) e ∙ h | inr m' ↦ f s m' ]

pub finds_as : {L : Type 0} (xs : List (Stretch L)) (a : ℕ) (o : Option (Stretch L)) → o ≡ found xs a → Finds xs a o
finds_as xs a o e = subst (Finds xs a) (sym e) (finds xs a)

-- a partition point is the length of the front that passes the test
pub point_is : {X : Type 0} (p : X → Bool) (xs : List X) (i : ℕ) → i ≤ length xs → IsPartitionPoint (λ y. p y ≡ true) (λ y. p y ≡ false) xs i → i ≡ prefix_len p xs
point_is p [] i within point = omega arith
point_is p (x ∷ xs) i within point = sym (prefix_len_is p (x ∷ xs) i x within (λ k lt. point.0 k x (omega arith) lt) (λ lt. point.1 i x (omega arith) lt))

-- no more stretches end than there are
pub ended_within : {L : Type 0} (a : ℕ) (xs : List (Stretch L)) → ended a xs ≤ length xs
ended_within a xs = prefix_len-le-length (λ s. leb (stop s) a) xs

module _ {L : Type 0} where
  starts_above : (low : ℕ) (xs : List (Stretch L)) (j : ℕ) (d : Stretch L) → rising low xs ≡ true → j < length xs → low ≤ (get_or xs j d).start
  starts_above low [] j d r w = absurd (omega arith)
  starts_above low (x ∷ xs) zero d r w = (rises low x xs r).above
  starts_above low (x ∷ xs) (suc j) d r w =
      let p = rises low x xs r in
      let h = starts_above (stop x) xs j d p.rest (omega arith) in
      omega (arith, p.above)

  -- in a rising list the starts rise, and so do the ends
  pub starts_rise : (low : ℕ) (xs : List (Stretch L)) → rising low xs ≡ true → IsNonDecreasingBy (λ s. s.start) xs
  starts_rise low [] r i j d h w = absurd (omega arith)
  starts_rise low (x ∷ xs) r zero zero d h w = omega arith
  starts_rise low (x ∷ xs) r zero (suc j) d h w =
      let p = rises low x xs r in
      let k = starts_above (stop x) xs j d p.rest (omega arith) in
      omega arith
  starts_rise low (x ∷ xs) r (suc i) zero d h w = absurd (omega arith)
  starts_rise low (x ∷ xs) r (suc i) (suc j) d h w = starts_rise (stop x) xs (rises low x xs r).rest i j d (omega arith) (omega arith)

  pub ends_rise : (low : ℕ) (xs : List (Stretch L)) → rising low xs ≡ true → IsNonDecreasingBy stop xs
  ends_rise low [] r i j d h w = absurd (omega arith)
  ends_rise low (x ∷ xs) r zero zero d h w = omega arith
  ends_rise low (x ∷ xs) r zero (suc j) d h w =
      let p = rises low x xs r in
      let k = starts_above (stop x) xs j d p.rest (omega arith) in
      omega arith
  ends_rise low (x ∷ xs) r (suc i) zero d h w = absurd (omega arith)
  ends_rise low (x ∷ xs) r (suc i) (suc j) d h w = ends_rise (stop x) xs (rises low x xs r).rest i j d (omega arith) (omega arith)

module _ {L : Type 0} (a : ℕ) where
  misses_low : (x : Stretch L) → stop x ≤ a → holds x a ≡ false
  misses_low x h = and_right (leb x.start a) _ (le-ltb a (stop x) h)

  misses_high : (x : Stretch L) → a < x.start → holds x a ≡ false
  misses_high x h = and_left (leb x.start a) _ (lt-leb x.start a h)

  -- nothing of a list that rises from above the address holds it
  found_above : (low : ℕ) (xs : List (Stretch L)) → rising low xs ≡ true → a < low → found xs a ≡ None
  found_above low [] r h = refl
  found_above low (x ∷ xs) r h =
      let p = rises low x xs r in
      cond-false _ _ _ (misses_high x (omega (arith, p.above))) ∙ found_above (stop x) xs p.rest (omega (arith, p.above))

  -- only the first that does not end by the address can hold it
  pub found_one : (low : ℕ) (xs : List (Stretch L)) (n : ℕ) (s : Stretch L) → rising low xs ≡ true → n ≡ ended a xs → n < length xs → s ≡ get_or xs n s → found xs a ≡ cond (holds s a) (Some s) None
  found_one low [] n s r e w read = absurd (omega arith)
  found_one low (x ∷ xs) n s r e w read =
      let p = rises low x xs r in
      elim (cases_lt a (stop x)) [
        | inl over ↦ (let z : n ≡ 0 = e ∙ cond-false _ _ _ (lt-leb _ _ over) in
            ap (cond (holds x a) (Some x)) (found_above (stop x) xs p.rest over) ∙ sym (ap (λ y. cond (holds y a) (Some y) None) (read ∙ ap (λ k. get_or (x ∷ xs) k s) z)))
        | inr under ↦ (let m : n ≡ suc (ended a xs) = e ∙ cond-true _ _ _ (le-leb _ _ under) ∙ one-add (ended a xs) in
            cond-false _ _ _ (misses_low x under) ∙ found_one (stop x) xs (ended a xs) s p.rest refl (omega arith) (read ∙ ap (λ k. get_or (x ∷ xs) k s) m))
      ]

  pub found_none : (low : ℕ) (xs : List (Stretch L)) (n : ℕ) → rising low xs ≡ true → n ≡ ended a xs → length xs ≤ n → found xs a ≡ None
  found_none low [] n r e w = refl
  found_none low (x ∷ xs) n r e w =
      let p = rises low x xs r in
      elim (cases_lt a (stop x)) [
        | inl over ↦ (let z : n ≡ 0 = e ∙ cond-false _ _ _ (lt-leb _ _ over) in absurd (omega arith))
        | inr under ↦ (let m : n ≡ 1 + ended a xs = e ∙ cond-true _ _ _ (le-leb _ _ under) in cond-false _ _ _ (misses_low x under) ∙ found_none (stop x) xs (ended a xs) p.rest refl (omega arith))
      ]
