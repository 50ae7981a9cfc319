-- Rising lists of stretches, and one stretch put among them.
use Rattle.std.specs.Prelude.{◌≡◌, ℕ, suc, ◌^◌, ◌<◌, ◌≤◌, Bool, true, false, ◌&&◌, ◌⊎◌, List, [], ◌∷◌, length, ◌≢◌, nat_le, nat_lt, refl}
use Rattle.std.proofs.Common.{sym, ap, ◌∙◌, inl, inr, arith}
use Rattle.std.proofs.lemmas.Bool.{and_parts, and_from, leb-true, ltb-true, le-leb, lt-ltb, le-ltb, cond-true, cond-false, cond_both, cases_lt, cases_Bool, cases_order}
use Rattle.std.proofs.Math.Bool.{or_comm}
use Rattle.std.proofs.lemmas.Bool.Decides.{nat_tests}
use Rattle.interval.specs.declared.stretches.Stretch.{Stretch}
use Rattle.interval.specs.Stretches.{stop, rising, lawful}
use Rattle.interval.specs.Edits.{apart, free, put}

-- what the order says of the first stretch and the rest
pub record Rises {L : Type 0} (low : ℕ) (x : Stretch L) (xs : List (Stretch L)) : Type 0 where
  pub above : low ≤ x.start
  pub some : 0 < x.length
  pub under : stop x ≤ 2 ^ 40
  pub rest : rising (stop x) xs ≡ true

and_swap : (a b c : Bool) → (a && (b && c)) ≡ (b && (a && c))
and_swap true true c = refl
and_swap true false c = refl
and_swap false true c = refl
and_swap false false c = refl

module _ {L : Type 0} where
  pub rises : (low : ℕ) (x : Stretch L) (xs : List (Stretch L)) → rising low (x ∷ xs) ≡ true → Rises low x xs
  rises low x xs r =
      let p = and_parts (nat_le low x.start) _ r in
      let q = and_parts (lawful x.start x.length) _ p.1 in
      let s = and_parts (nat_lt 0 x.length) _ q.0 in
      record { above = leb-true _ _ p.0; some = ltb-true _ _ s.0; under = leb-true _ _ s.1; rest = q.1 }

  rising_from : (low : ℕ) (x : Stretch L) (xs : List (Stretch L)) → low ≤ x.start → 0 < x.length → stop x ≤ 2 ^ 40 → rising (stop x) xs ≡ true → rising low (x ∷ xs) ≡ true
  rising_from low x xs a b c r = and_from _ _ (le-leb _ _ a) (and_from _ _ (and_from _ _ (lt-ltb _ _ b) (le-leb _ _ c)) r)

  pub rising_put : (s : Stretch L) (low : ℕ) (xs : List (Stretch L)) → low ≤ s.start → 0 < s.length → stop s ≤ 2 ^ 40 → rising low xs ≡ true → free s.start (stop s) xs ≡ true → rising low (put xs s) ≡ true
  rising_put s low [] h k t r f = rising_from low s [] h k t refl
  rising_put s low (x ∷ xs) h k t r f =
      let p = rises low x xs r in
      let q = and_parts (apart s.start (stop s) x) _ f in
      elim (cases_Bool (nat_lt x.start s.start)) [
        | inl earlier ↦ (let sooner : stop x ≤ s.start = grind (arith, nat_tests) in
            ap (rising low) (cond-true _ _ _ earlier) ∙ rising_from low x (put xs s) p.above p.some p.under (rising_put s (stop x) xs sooner k t p.rest q.1))
        | inr later ↦ (let behind : stop s ≤ x.start = grind (arith, nat_tests) in
            ap (rising low) (cond-false _ _ _ later) ∙ rising_from low s (x ∷ xs) h k t (rising_from (stop s) x xs behind p.some p.under p.rest))
      ]

  pub length_put : (xs : List (Stretch L)) (s : Stretch L) → length (put xs s) ≡ suc (length xs)
  length_put [] s = refl
  length_put (x ∷ xs) s =
      cond_both (nat_lt x.start s.start) _ _ (λ ys. length ys ≡ suc (suc (length xs))) (λ _. ap suc (length_put xs s)) (λ _. refl)

  pub free_put : (a e : ℕ) (xs : List (Stretch L)) (s : Stretch L) → free a e (put xs s) ≡ (apart a e s && free a e xs)
  free_put a e [] s = refl
  free_put a e (x ∷ xs) s =
      cond_both (nat_lt x.start s.start) _ _ (λ ys. free a e ys ≡ (apart a e s && free a e (x ∷ xs)))
      (λ _. ap (λ t. apart a e x && t) (free_put a e xs s) ∙ and_swap (apart a e x) (apart a e s) (free a e xs)) (λ _. refl)

  put_past : (x : Stretch L) (xs : List (Stretch L)) (s : Stretch L) → x.start < s.start → put (x ∷ xs) s ≡ x ∷ put xs s
  put_past x xs s h = cond-true _ _ _ (lt-ltb x.start s.start h)

  put_here : (x : Stretch L) (xs : List (Stretch L)) (s : Stretch L) → s.start ≤ x.start → put (x ∷ xs) s ≡ s ∷ x ∷ xs
  put_here x xs s h = cond-false _ _ _ (le-ltb x.start s.start h)

  -- a stretch that starts below a rising list goes to its front
  pub put_front : (low : ℕ) (s : Stretch L) (xs : List (Stretch L)) → s.start ≤ low → rising low xs ≡ true → put xs s ≡ s ∷ xs
  put_front low s [] h r = refl
  put_front low s (x ∷ xs) h r = let p = rises low x xs r in put_here x xs s (omega (arith, p.above))

  put_under : (a b : Stretch L) (xs : List (Stretch L)) → a.start < b.start → put (put xs a) b ≡ put (put xs b) a
  put_under a b [] h = put_past a [] b h ∙ sym (put_here b [] a (omega arith))
  put_under a b (x ∷ xs) h = go (put_under a b xs h) (cases_lt x.start a.start) (cases_lt x.start b.start)
    where
      go : put (put xs a) b ≡ put (put xs b) a → (x.start < a.start) ⊎ (a.start ≤ x.start) → (x.start < b.start) ⊎ (b.start ≤ x.start) → put (put (x ∷ xs) a) b ≡ put (put (x ∷ xs) b) a
      go ih (inl xa) (inl xb) = ap (λ t. put t b) (put_past x xs a xa) ∙ put_past x (put xs a) b xb ∙ ap (λ t. x ∷ t) ih ∙ sym (ap (λ t. put t a) (put_past x xs b xb) ∙ put_past x (put xs b) a xa)
      go ih (inl xa) (inr bx) = absurd (omega arith)
      go ih (inr ax) (inl xb) = ap (λ t. put t b) (put_here x xs a ax) ∙ put_past a (x ∷ xs) b h ∙ ap (λ t. a ∷ t) (put_past x xs b xb) ∙ sym (ap (λ t. put t a) (put_past x xs b xb) ∙ put_here x (put xs b) a ax)
      go ih (inr ax) (inr bx) = ap (λ t. put t b) (put_here x xs a ax) ∙ put_past a (x ∷ xs) b h ∙ ap (λ t. a ∷ t) (put_here x xs b bx) ∙ sym (ap (λ t. put t a) (put_here x xs b bx) ∙ put_here b (x ∷ xs) a (omega arith))

  -- two that start apart can go in in either order
  pub put_comm : (a b : Stretch L) (xs : List (Stretch L)) → (a.start ≢ b.start) → put (put xs a) b ≡ put (put xs b) a
  put_comm a b xs ne = go (cases_order a.start b.start)
    where
      go : (a.start ≡ b.start) ⊎ ((a.start < b.start) ⊎ (b.start < a.start)) → put (put xs a) b ≡ put (put xs b) a
      go (inl e) = absurd (ne e)
      go (inr (inl h)) = put_under a b xs h
      go (inr (inr h)) = sym (put_under b a xs h)

  pub starts_differ : (a b : Stretch L) → 0 < a.length → 0 < b.length → apart a.start (stop a) b ≡ true → a.start ≢ b.start
  starts_differ a b p q f e = grind (arith, nat_tests)

  pub apart_flip : (a b : Stretch L) → apart a.start (stop a) b ≡ apart b.start (stop b) a
  apart_flip a b = or_comm (nat_le (stop b) a.start) (nat_le (stop a) b.start)
