-- A cut of a rising list: the stretches before and after the span stay, and of those that meet it two pieces do.
use Rattle.std.proofs.Common.{◌≡◌, ℕ, zero, suc, ◌+◌, ◌<◌, ◌≤◌, true, false, ltb, leb, List, [], ◌∷◌, ◌++◌, length, get_or, take, drop, None, sym, refl, ap, ◌∙◌, inl, inr, append_assoc, one-add, arith}
use Rattle.std.proofs.lemmas.Bool.{and_parts, and_from, and_right, or_left, or_right, or_from, le-leb, lt-leb, lt-ltb, le-ltb, cond-true, cond-false, cases_lt}
use Rattle.std.specs.Option.{option_to_list}
use Rattle.interval.specs.declared.stretches.Stretch.{Stretch}
use Rattle.interval.specs.Stretches.{rising, stop}
use Rattle.interval.specs.Edits.{apart, ended, started, left, right, first_left, last_right, cut}
use Rattle.interval.proofs.Spans.{rises, take_front, drop_front}

module _ {L : Type 0} (adv : L → ℕ → L) (a e : ℕ) (forward : a < e) where
  stays : (x : Stretch L) (xs : List (Stretch L)) → apart a e x ≡ true → cut adv a e (x ∷ xs) ≡ x ∷ cut adv a e xs
  stays x xs h = ap (λ z. z ++ cut adv a e xs) (cond-true _ _ _ h)

  met : (x : Stretch L) → a < stop x → x.start < e → apart a e x ≡ false
  met x h k = or_from (leb (stop x) a) _ (lt-leb _ _ h) (lt-leb _ _ k)

  parts : (x : Stretch L) (xs : List (Stretch L)) → a < stop x → x.start < e → cut adv a e (x ∷ xs) ≡ option_to_list (left a x) ++ option_to_list (right adv e x) ++ cut adv a e xs
  parts x xs h k = ap (λ z. z ++ cut adv a e xs) (cond-false _ _ _ (met x h k))

  pub cut_above : (low : ℕ) (xs : List (Stretch L)) → e ≤ low → rising low xs ≡ true → cut adv a e xs ≡ xs
  cut_above low [] h r = refl
  cut_above low (x ∷ xs) h r =
      let p = rises low x xs r in
      stays x xs (or_right (leb (stop x) a) _ (le-leb e x.start (omega arith))) ∙ ap (λ z. x ∷ z) (cut_above (stop x) xs (omega arith) p.rest)

  started_above : (low : ℕ) (xs : List (Stretch L)) → e ≤ low → rising low xs ≡ true → started e xs ≡ 0
  started_above low [] h r = refl
  started_above low (x ∷ xs) h r = let p = rises low x xs r in cond-false _ _ _ (le-ltb x.start e (omega arith))

  last_skip : (x : Stretch L) (ys : List (Stretch L)) → right adv e x ≡ None → last_right adv e (x ∷ ys) ≡ last_right adv e ys
  last_skip x [] h = h
  last_skip x (y ∷ ys) h = refl

  -- the pieces of the last that meets the span, and what follows
  Tail : List (Stretch L) → Type 0
  Tail xs = cut adv a e xs ≡ option_to_list (last_right adv e (take (started e xs) xs)) ++ drop (started e xs) xs

  tail : (x : Stretch L) (xs : List (Stretch L)) → x.start < e → rising (stop x) xs ≡ true → Tail xs
      → option_to_list (right adv e x) ++ cut adv a e xs ≡ option_to_list (last_right adv e (x ∷ take (started e xs) xs)) ++ drop (started e xs) xs
  unfolding Tail
  tail x xs k r ih =
      elim (cases_lt e (stop x)) [
        | inl over ↦ ap (λ z. option_to_list (right adv e x) ++ z) (cut_above (stop x) xs (omega arith) r)
            ∙ sym (ap (λ n. option_to_list (last_right adv e (x ∷ take n xs)) ++ drop n xs) (started_above (stop x) xs (omega arith) r))
        | inr under ↦ (let gone : right adv e x ≡ None = cond-false _ _ _ (and_right (leb x.start e) _ (le-ltb e (stop x) under)) in
            ap (λ z. option_to_list z ++ cut adv a e xs) gone ∙ ih ∙ ap (λ z. option_to_list z ++ drop (started e xs) xs) (sym (last_skip x (take (started e xs) xs) gone)))
      ]

  raise : (low : ℕ) (x : Stretch L) (xs : List (Stretch L)) → rising low (x ∷ xs) ≡ true → rising x.start (x ∷ xs) ≡ true
  raise low x xs r = and_from (leb x.start x.start) _ (le-leb _ _ (omega arith)) (and_parts (leb low x.start) _ r).1

  inside : (low : ℕ) (xs : List (Stretch L)) → a ≤ low → rising low xs ≡ true → Tail xs
  unfolding Tail
  inside low [] h r = refl
  inside low (x ∷ xs) h r =
      let p = rises low x xs r in
      elim (cases_lt x.start e) [
        | inl before ↦ parts x xs (omega arith) before
            ∙ ap (λ z. option_to_list z ++ option_to_list (right adv e x) ++ cut adv a e xs) (cond-false (ltb x.start a) _ _ (le-ltb _ _ (omega arith)))
            ∙ tail x xs before p.rest (inside (stop x) xs (omega arith) p.rest)
            ∙ sym (ap (λ n. option_to_list (last_right adv e (take n (x ∷ xs))) ++ drop n (x ∷ xs)) (cond-true _ _ _ (lt-ltb _ _ before)) ∙ rw (take_front x xs (started e xs), drop_front x xs (started e xs)))
        | inr past ↦ cut_above x.start (x ∷ xs) past (raise low x xs r)
            ∙ sym (ap (λ n. option_to_list (last_right adv e (take n (x ∷ xs))) ++ drop n (x ∷ xs)) (cond-false _ _ _ (le-ltb _ _ past)))
      ]

  -- the list with the stretches from i up to j replaced by their pieces
  abbrev pub pieced : List (Stretch L) → ℕ → ℕ → List (Stretch L)
  pieced xs i j = take i xs ++ (option_to_list (first_left a (drop i (take j xs))) ++ option_to_list (last_right adv e (drop i (take j xs))) ++ drop j xs)

  there : (xs : List (Stretch L)) (i j k l : ℕ) → i ≡ k → j ≡ l → pieced xs i j ≡ pieced xs k l
  there xs i j k l p q = ap (λ n. pieced xs n j) p ∙ ap (λ n. pieced xs k n) q

  front : (x : Stretch L) (xs : List (Stretch L)) (i j : ℕ) → pieced (x ∷ xs) (1 + i) (1 + j) ≡ x ∷ pieced xs i j
  front x xs i j = simp one-add

  first : (x : Stretch L) (xs : List (Stretch L)) (j : ℕ) → pieced (x ∷ xs) 0 (1 + j) ≡ option_to_list (left a x) ++ option_to_list (last_right adv e (x ∷ take j xs)) ++ drop j xs
  first x xs j = simp one-add

  pub cut_is : (low : ℕ) (xs : List (Stretch L)) → rising low xs ≡ true → cut adv a e xs ≡ pieced xs (ended a xs) (started e xs)
  cut_is low [] r = refl
  cut_is low (x ∷ xs) r =
      let p = rises low x xs r in
      let i = ended a xs in
      let j = started e xs in
      let starts : x.start < e → started e (x ∷ xs) ≡ 1 + j = λ h. cond-true _ _ _ (lt-ltb _ _ h) in
      elim (cases_lt a (stop x)) [
        | inl over ↦ (let none : ended a (x ∷ xs) ≡ 0 = cond-false _ _ _ (lt-leb _ _ over) in
            elim (cases_lt x.start e) [
              | inl before ↦ parts x xs over before ∙ append_assoc (option_to_list (left a x)) (option_to_list (right adv e x)) (cut adv a e xs)
                  ∙ ap (λ z. option_to_list (left a x) ++ z) (tail x xs before p.rest (inside (stop x) xs (omega arith) p.rest))
                  ∙ sym (there (x ∷ xs) _ _ _ _ none (starts before) ∙ first x xs j ∙ append_assoc (option_to_list (left a x)) (option_to_list (last_right adv e (x ∷ take j xs))) (drop j xs))
              | inr past ↦ cut_above x.start (x ∷ xs) past (raise low x xs r) ∙ sym (there (x ∷ xs) _ _ _ _ none (cond-false _ _ _ (le-ltb _ _ past)))
            ])
        | inr under ↦ stays x xs (or_left _ (leb e x.start) (le-leb _ _ under)) ∙ ap (λ z. x ∷ z) (cut_is (stop x) xs p.rest)
            ∙ sym (there (x ∷ xs) _ _ _ _ (cond-true _ _ _ (le-leb _ _ under)) (starts (omega arith)) ∙ front x xs i j)
      ]

-- the last of stretches that stand together
pub last_is : {L : Type 0} (adv : L → ℕ → L) (e : ℕ) (xs : List (Stretch L)) (x : Stretch L) (n : ℕ) → length xs ≡ suc n → x ≡ get_or xs n x → right adv e x ≡ last_right adv e xs
last_is adv e [] x n h read = absurd (omega arith)
last_is adv e (y ∷ []) x n h read = let z : n ≡ 0 = omega arith in ap (right adv e) (read ∙ ap (λ k. get_or (y ∷ []) k x) z)
last_is adv e (y ∷ z ∷ zs) x zero h read = absurd (omega arith)
last_is adv e (y ∷ z ∷ zs) x (suc n) h read = last_is adv e (z ∷ zs) x n (omega arith) read
