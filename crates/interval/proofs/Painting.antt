-- A stretch that is put into the gap of a cut stands between the two pieces.
use Rattle.std.proofs.Common.{◌≡◌, ℕ, ◌<◌, ◌≤◌, true, List, [], ◌∷◌, ◌++◌, take, drop, Option, sym, refl, ap, ◌∙◌, subst, inl, inr, append_assoc, arith}
use Rattle.std.proofs.ByRecursion.{All-append}
use Rattle.std.proofs.lemmas.Bool.{le-leb, lt-leb, lt-ltb, le-ltb, cond-true, cond-false, cond_both, cases_lt}
use Rattle.std.specs.Option.{option_to_list}
use Rattle.std.specs.List.{AllByRecursion as All}
use Rattle.interval.specs.declared.stretches.Stretch.{Stretch}
use Rattle.interval.specs.Stretches.{rising, stop, holds}
use Rattle.interval.specs.Edits.{ended, started, first_left, last_right, cut, put, paint}
use Rattle.interval.proofs.Cutting.{cut_is}
use Rattle.interval.proofs.Spans.{rises, take_front, drop_front}

module _ {L : Type 0} where
  abbrev Before : ℕ → Stretch L → Type 0
  Before a x = x.start < a

  -- the first of the stretches, if there is one, starts at the address or after it
  abbrev Behind : ℕ → List (Stretch L) → Type 0
  Behind a [] = Unit {0}
  Behind a (x ∷ xs) = a ≤ x.start

  put_between : (s : Stretch L) (xs ys : List (Stretch L)) → All (Before s.start) xs → Behind s.start ys → put (xs ++ ys) s ≡ xs ++ (s ∷ ys)
  put_between s [] [] h k = refl
  put_between s [] (y ∷ ys) h k = cond-false _ _ _ (le-ltb _ _ k)
  put_between s (x ∷ xs) ys h k = cond-true _ _ _ (lt-ltb _ _ h.0) ∙ ap (λ z. x ∷ z) (put_between s xs ys h.1 k)

  fronts : (a low : ℕ) (xs : List (Stretch L)) → rising low xs ≡ true → All (Before a) (take (ended a xs) xs)
  fronts a low [] r = tt
  fronts a low (x ∷ xs) r =
      let p = rises low x xs r in
      let P : ℕ → Type 0 = λ n. All (Before a) (take n (x ∷ xs)) in
      elim (cases_lt a (stop x)) [
        | inl over ↦ subst P (sym (cond-false _ _ _ (lt-leb _ _ over))) tt
        | inr under ↦ subst P (sym (cond-true _ _ _ (le-leb _ _ under))) (subst (All (Before a)) (sym (take_front x xs (ended a xs))) (omega arith, fronts a (stop x) xs p.rest))
      ]

  left_before : (a : ℕ) (xs : List (Stretch L)) → All (Before a) (option_to_list (first_left a xs))
  left_before a [] = tt
  left_before a (x ∷ xs) =
      let P : Option (Stretch L) → Type 0 = λ o. All (Before a) (option_to_list o) in
      elim (cases_lt x.start a) [
        | inl before ↦ subst P (sym (cond-true _ _ _ (lt-ltb _ _ before))) (before, tt)
        | inr past ↦ subst P (sym (cond-false _ _ _ (le-ltb _ _ past))) tt
      ]

  rest_behind : (e : ℕ) (xs : List (Stretch L)) → Behind e (drop (started e xs) xs)
  rest_behind e [] = tt
  rest_behind e (x ∷ xs) =
      let P : ℕ → Type 0 = λ n. Behind e (drop n (x ∷ xs)) in
      elim (cases_lt x.start e) [
        | inl before ↦ subst P (sym (cond-true _ _ _ (lt-ltb _ _ before))) (subst (Behind e) (sym (drop_front x xs (started e xs))) (rest_behind e xs))
        | inr past ↦ subst P (sym (cond-false _ _ _ (le-ltb _ _ past))) past
      ]

  right_behind : (adv : L → ℕ → L) (e : ℕ) (xs ys : List (Stretch L)) → Behind e ys → Behind e (option_to_list (last_right adv e xs) ++ ys)
  right_behind adv e [] ys h = h
  right_behind adv e (x ∷ []) ys h = cond_both (holds x e) _ _ (λ o. Behind e (option_to_list o ++ ys)) (λ _. omega arith) (λ _. h)
  right_behind adv e (x ∷ y ∷ xs) ys h = right_behind adv e (y ∷ xs) ys h

  sooner : (a e : ℕ) (xs : List (Stretch L)) → a ≤ e → Behind e xs → Behind a xs
  sooner a e [] h k = tt
  sooner a e (x ∷ xs) h k = omega arith

  pub paint_is : (adv : L → ℕ → L) (low : ℕ) (xs : List (Stretch L)) (s : Stretch L) → 0 < s.length → rising low xs ≡ true
      → let a = s.start in let e = stop s in let i = ended a xs in let j = started e xs in let held = drop i (take j xs) in
      paint adv xs s ≡ take i xs ++ (option_to_list (first_left a held) ++ (s ∷ []) ++ option_to_list (last_right adv e held) ++ drop j xs)
  paint_is adv low xs s h r =
      let a = s.start in
      let e = stop s in
      let i = ended a xs in
      let j = started e xs in
      let held = drop i (take j xs) in
      let l = option_to_list (first_left a held) in
      let b = option_to_list (last_right adv e held) in
      let apart : cut adv a e xs ≡ (take i xs ++ l) ++ (b ++ drop j xs) = cut_is adv a e (omega arith) low xs r ∙ simp append_assoc in
      ap (λ z. put z s) apart
      ∙ put_between s (take i xs ++ l) (b ++ drop j xs) (All-append (Before a) (take i xs) l (fronts a low xs r) (left_before a held)) (sooner a e (b ++ drop j xs) (omega arith) (right_behind adv e held (drop j xs) (rest_behind e xs)))
      ∙ simp append_assoc
