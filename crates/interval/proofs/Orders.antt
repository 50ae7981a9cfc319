-- The edits keep the order; and a join leaves no stretch that runs on.
use Rattle.std.proofs.Common.{◌≡◌, ℕ, ◌-◌, ◌^◌, ◌<◌, ◌≤◌, Bool, true, false, ◌&&◌, eqb, ltb, leb, List, [], ◌∷◌, ◌++◌, sym, refl, ap, ◌∙◌, subst, inl, inr, append_assoc, arith}
use Rattle.std.proofs.lemmas.Bool.{and_parts, and_from, or_parts, leb-false, le-leb, lt-ltb, eqb-true, cond-true, cond-false, cond_both, cases_Bool}
use Rattle.std.proofs.lemmas.Bool.Decides.{nat_tests}
use Rattle.std.specs.Option.{option_to_list}
use Rattle.interval.specs.declared.stretches.Stretch.{Stretch}
use Rattle.interval.specs.Stretches.{rising, stop, holds}
use Rattle.interval.specs.Edits.{apart, free, left, right, cut, put, runs_on, merged, join_from, join}
use Rattle.interval.specs.Laws.{Settled}
use Rattle.interval.proofs.Spans.{rises}

module _ {L : Type 0} where
  -- the order from its parts
  pub rising_from : (low : ℕ) (x : Stretch L) (xs : List (Stretch L)) → low ≤ x.start → 0 < x.length → stop x ≤ 2 ^ 40 → rising (stop x) xs ≡ true → rising low (x ∷ xs) ≡ true
  rising_from low x xs a b c r = and_from _ _ (le-leb _ _ a) (and_from _ _ (and_from _ _ (lt-ltb _ _ b) (le-leb _ _ c)) r)

  pub rising_down : (low down : ℕ) (xs : List (Stretch L)) → down ≤ low → rising low xs ≡ true → rising down xs ≡ true
  rising_down low down [] h r = refl
  rising_down low down (x ∷ xs) h r = let p = rises low x xs r in rising_from down x xs (omega arith) p.some p.under p.rest

  pub rising_put : (s : Stretch L) (low : ℕ) (xs : List (Stretch L)) → low ≤ s.start → 0 < s.length → stop s ≤ 2 ^ 40 → rising low xs ≡ true → free s.start (stop s) xs ≡ true → rising low (put xs s) ≡ true
  rising_put s low [] h k t r f = rising_from low s [] h k t refl
  rising_put s low (x ∷ xs) h k t r f =
      let p = rises low x xs r in
      let q = and_parts (apart s.start (stop s) x) _ f in
      elim (cases_Bool (ltb x.start s.start)) [
        | inl earlier ↦ (let sooner : stop x ≤ s.start = grind (arith, nat_tests) in
            ap (rising low) (cond-true _ _ _ earlier) ∙ rising_from low x (put xs s) p.above p.some p.under (rising_put s (stop x) xs sooner k t p.rest q.1))
        | inr later ↦ (let behind : stop s ≤ x.start = grind (arith, nat_tests) in
            ap (rising low) (cond-false _ _ _ later) ∙ rising_from low s (x ∷ xs) h k t (rising_from (stop s) x xs behind p.some p.under p.rest))
      ]

  pub rising_cut : (adv : L → ℕ → L) (c e low : ℕ) (xs : List (Stretch L)) → c < e → rising low xs ≡ true → rising low (cut adv c e xs) ≡ true
  rising_cut adv c e low [] f r = refl
  rising_cut adv c e low (x ∷ xs) f r =
      let p = rises low x xs r in
      let ih = rising_cut adv c e (stop x) xs f p.rest in
      let rest = cut adv c e xs in
      elim (cases_Bool (apart c e x)) [
        | inl m ↦ ap (λ z. rising low (z ++ rest)) (cond-true _ _ _ m) ∙ rising_from low x rest p.above p.some p.under ih
        | inr m ↦ (let q = or_parts (leb (stop x) c) _ m in
            let over : c < stop x = leb-false _ _ q.0 in
            let before : x.start < e = leb-false _ _ q.1 in
            let R : (from : ℕ) → from ≤ e → from ≤ stop x → rising from (option_to_list (right adv e x) ++ rest) ≡ true
            = λ from h k. cond_both (holds x e) _ _ (λ o. rising from (option_to_list o ++ rest) ≡ true)
            (λ t. let high : e < stop x = grind (arith, nat_tests) in rising_from from (record { start = e; length = stop x - e; label = adv x.label (e - x.start) }) rest h (omega arith) (omega (arith, p.under)) (rising_down (stop x) _ rest (omega arith) ih))
            (λ _. rising_down (stop x) from rest k ih) in
            ap (λ z. rising low (z ++ rest)) (cond-false _ _ _ m) ∙ ap (rising low) (append_assoc (option_to_list (left c x)) (option_to_list (right adv e x)) rest)
            ∙ cond_both (ltb x.start c) _ _ (λ o. rising low (option_to_list o ++ (option_to_list (right adv e x) ++ rest)) ≡ true)
            (λ t. let low' : x.start < c = grind (arith, nat_tests) in rising_from low (record { start = x.start; length = c - x.start; label = x.label }) _ p.above (omega arith) (omega (arith, p.under)) (R _ (omega arith) (omega arith)))
            (λ t. R low (omega (arith, p.above)) (omega (arith, p.above))))
      ]

  module _ (adv : L → ℕ → L) (same : L → L → Bool) where
    rising_join_from : (low : ℕ) (ys : List (Stretch L)) (x : Stretch L) → rising low (x ∷ ys) ≡ true → rising low (join_from adv same x ys) ≡ true
    rising_join_from low [] x r = r
    rising_join_from low (y ∷ ys) x r =
        let p = rises low x (y ∷ ys) r in
        let q = rises (stop x) y ys p.rest in
        elim (cases_Bool (runs_on adv same x y)) [
          | inl t ↦ (let touch : stop x ≡ y.start = eqb-true _ _ (and_parts (eqb (stop x) y.start) _ t).0 in
              let ends : stop y ≡ stop (merged x y) = omega arith in
              ap (rising low) (cond-true _ _ _ t) ∙ rising_join_from low ys (merged x y) (rising_from low (merged x y) ys p.above (omega (arith, p.some)) (omega (arith, q.under)) (ap (λ z. rising z ys) (sym ends) ∙ q.rest)))
          | inr f ↦ ap (rising low) (cond-false _ _ _ f) ∙ rising_from low x (join_from adv same y ys) p.above p.some p.under (rising_join_from (stop x) ys y p.rest)
        ]

    pub rising_join : (low : ℕ) (xs : List (Stretch L)) → rising low xs ≡ true → rising low (join adv same xs) ≡ true
    rising_join low [] r = refl
    rising_join low (x ∷ xs) r = rising_join_from low xs x r

    -- the first of a joined list starts where the first of the list does, with its label
    Headed : Stretch L → List (Stretch L) → Type 0
    Headed x ys = (z : Stretch L) × (zs : List (Stretch L)) × (ys ≡ z ∷ zs) × (z.start ≡ x.start) × (z.label ≡ x.label)

    headed : (ys : List (Stretch L)) (x : Stretch L) → Headed x (join_from adv same x ys)
    unfolding Headed
    headed [] x = (x, [], refl, refl, refl)
    headed (y ∷ ys) x = cond_both (runs_on adv same x y) _ _ (λ zs. Headed x zs) (λ _. headed ys (merged x y)) (λ _. (x, join_from adv same y ys, refl, refl, refl))

    settled_cons : (x y : Stretch L) (ys : List (Stretch L)) → runs_on adv same x y ≡ false → Headed y ys → Settled adv same ys → Settled adv same (x ∷ ys)
    unfolding Headed
    settled_cons x y ys f h s =
        let apart : runs_on adv same x h.0 ≡ false = ap (λ z. eqb (stop x) z && same (adv x.label x.length) h.0.label) h.3 ∙ ap (λ z. eqb (stop x) y.start && same (adv x.label x.length) z) h.4 ∙ f in
        subst (λ zs. Settled adv same (x ∷ zs)) (sym h.2) (apart, subst (Settled adv same) h.2 s)

    settled_join_from : (ys : List (Stretch L)) (x : Stretch L) → Settled adv same (join_from adv same x ys)
    settled_join_from [] x = tt
    settled_join_from (y ∷ ys) x = cond_both (runs_on adv same x y) _ _ (Settled adv same) (λ _. settled_join_from ys (merged x y)) (λ f. settled_cons x y (join_from adv same y ys) f (headed ys y) (settled_join_from ys y))

    pub settled_join : (xs : List (Stretch L)) → Settled adv same (join adv same xs)
    settled_join [] = tt
    settled_join (x ∷ xs) = settled_join_from xs x
