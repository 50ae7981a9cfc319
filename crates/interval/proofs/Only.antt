-- A rising list in which no stretch runs on is fixed by what stands at each address.
use Rattle.std.proofs.Common.{◌≡◌, ℕ, ◌-◌, ◌<◌, Bool, true, leb, List, [], ◌∷◌, Some, None, Decides, Option, sym, refl, ap, ◌∙◌, inl, inr, arith}
use Rattle.std.proofs.lemmas.Bool.{and_from, and_left, and_right, le-leb, lt-leb, lt-ltb, le-ltb, eq-eqb, cases_lt, cases_order, both_ways}
use Rattle.std.proofs.lemmas.Option.{none-some}
use Rattle.interval.specs.declared.stretches.Stretch.{Stretch}
use Rattle.interval.specs.Stretches.{rising, stop, at}
use Rattle.interval.specs.Edits.{runs_on}
use Rattle.interval.specs.Laws.{Settled}
use Rattle.interval.proofs.AtLaws.{at_yes, at_not}
use Rattle.interval.proofs.Orders.{rising_from}
use Rattle.interval.proofs.Spans.{rises}

some_some : {X : Type 0} (o : Option X) (x y : X) → o ≡ Some x → o ≡ Some y → x ≡ y
some_some o x y p q = cc

module _ {L : Type 0} (adv : L → ℕ → L) (zero : (x : L) → adv x 0 ≡ x) where
  above : (a low : ℕ) (xs : List (Stretch L)) → rising low xs ≡ true → a < low → at adv xs a ≡ None
  above a low [] r h = refl
  above a low (x ∷ xs) r h =
      let p = rises low x xs r in
      at_not adv a x xs (and_left (leb x.start a) _ (lt-leb x.start a (omega arith))) ∙ above a (stop x) xs p.rest (omega arith)

  before_first : (a low : ℕ) (x : Stretch L) (xs : List (Stretch L)) → rising low (x ∷ xs) ≡ true → a < x.start → at adv (x ∷ xs) a ≡ None
  before_first a low x xs r h =
      let p = rises low x xs r in
      above a x.start (x ∷ xs) (rising_from x.start x xs (omega arith) p.some p.under p.rest) h

  at_start : (low : ℕ) (x : Stretch L) (xs : List (Stretch L)) → rising low (x ∷ xs) ≡ true → at adv (x ∷ xs) x.start ≡ Some x.label
  at_start low x xs r =
      let p = rises low x xs r in
      let none : x.start - x.start ≡ 0 = omega arith in
      at_yes adv x.start x xs (and_from _ _ (le-leb x.start x.start (omega arith)) (lt-ltb x.start (stop x) (omega arith))) ∙ ap Some (ap (adv x.label) none ∙ zero x.label)

  module _ (same : L → L → Bool) (exact : (x y : L) → Decides (same x y) (x ≡ y)) where
    settled_tail : (x : Stretch L) (xs : List (Stretch L)) → Settled adv same (x ∷ xs) → Settled adv same xs
    settled_tail x [] s = tt
    settled_tail x (y ∷ ys) s = s.1

    -- where x is settled, nothing goes on from its end
    ends : (x : Stretch L) (xs : List (Stretch L)) → rising (stop x) xs ≡ true → Settled adv same (x ∷ xs) → at adv xs (stop x) ≡ Some (adv x.label x.length) → ⊥
    ends x [] r s h = none-some _ h
    ends x (y ∷ ys) r s h =
        elim (cases_lt (stop x) y.start) [
          | inl gap ↦ none-some _ (sym (before_first (stop x) (stop x) y ys r gap) ∙ h)
          | inr no_gap ↦ (let p = rises (stop x) y ys r in
              let touch : stop x ≡ y.start = omega (arith, p.above) in
              let label : adv x.label x.length ≡ y.label = some_some (at adv (y ∷ ys) (stop x)) _ _ h (ap (at adv (y ∷ ys)) touch ∙ at_start (stop x) y ys r) in
              both_ways (runs_on adv same x y) s.0 (and_from _ _ (eq-eqb (stop x) y.start touch) ((exact _ _).1 label)))
        ]

    -- of two settled lists that begin alike neither's first is the shorter
    longer : (x y : Stretch L) (xs ys : List (Stretch L)) (low : ℕ) → rising low (x ∷ xs) ≡ true → Settled adv same (x ∷ xs) → ((a : ℕ) → at adv (x ∷ xs) a ≡ at adv (y ∷ ys) a)
        → x.start ≡ y.start → x.label ≡ y.label → x.length < y.length → ⊥
    longer x y xs ys low r s h p q k =
        let o = rises low x xs r in
        let far : stop x - y.start ≡ x.length = omega arith in
        let there : at adv (y ∷ ys) (stop x) ≡ Some (adv x.label x.length)
        = at_yes adv (stop x) y ys (and_from _ _ (le-leb y.start (stop x) (omega arith)) (lt-ltb (stop x) (stop y) (omega arith))) ∙ ap Some (ap (λ z. adv z (stop x - y.start)) (sym q) ∙ ap (adv x.label) far) in
        ends x xs o.rest s (sym (at_not adv (stop x) x xs (and_right (leb x.start (stop x)) _ (le-ltb (stop x) (stop x) (omega arith)))) ∙ h (stop x) ∙ there)

    pub only : (xs ys : List (Stretch L)) (low : ℕ) → rising low xs ≡ true → Settled adv same xs → rising low ys ≡ true → Settled adv same ys → ((a : ℕ) → at adv xs a ≡ at adv ys a) → xs ≡ ys
    only [] [] low r s t u h = refl
    only [] (y ∷ ys) low r s t u h = absurd (none-some _ (h y.start ∙ at_start low y ys t))
    only (x ∷ xs) [] low r s t u h = absurd (none-some _ (sym (h x.start) ∙ at_start low x xs r))
    only (x ∷ xs) (y ∷ ys) low r s t u h =
        let m = rises low x xs r in
        let n = rises low y ys t in
        let p : x.start ≡ y.start = elim (cases_order x.start y.start) [
          | inl same_start ↦ same_start
          | inr (inl less) ↦ absurd (none-some _ (sym (h x.start ∙ before_first x.start low y ys t less) ∙ at_start low x xs r))
          | inr (inr more) ↦ absurd (none-some _ (sym (sym (h y.start) ∙ before_first y.start low x xs r more) ∙ at_start low y ys t))
        ] in
        let q : x.label ≡ y.label = some_some (at adv (x ∷ xs) x.start) _ _ (at_start low x xs r) (h x.start ∙ ap (at adv (y ∷ ys)) p ∙ at_start low y ys t) in
        let l : x.length ≡ y.length = elim (cases_order x.length y.length) [
          | inl same_length ↦ same_length
          | inr (inl less) ↦ absurd (longer x y xs ys low r s h p q less)
          | inr (inr more) ↦ absurd (longer y x ys xs low t u (λ a. sym (h a)) (sym p) (sym q) more)
        ] in
        let first : x ≡ y = λ i. record { start = p i; length = l i; label = q i } in
        let stops : stop y ≡ stop x = omega arith in
        let order : rising (stop x) ys ≡ true = ap (λ z. rising z ys) (sym stops) ∙ n.rest in
        let rest : (a : ℕ) → at adv xs a ≡ at adv ys a = λ a. elim (cases_lt a (stop x)) [
          | inl under ↦ above a (stop x) xs m.rest under ∙ sym (above a (stop x) ys order under)
          | inr past ↦ sym (at_not adv a x xs (and_right (leb x.start a) _ (le-ltb a (stop x) past))) ∙ h a ∙ at_not adv a y ys (and_right (leb y.start a) _ (le-ltb a (stop y) (omega arith)))
        ] in
        ap (λ z. z ∷ xs) first ∙ ap (λ zs. y ∷ zs) (only xs ys (stop x) m.rest (settled_tail x xs s) order (settled_tail y ys u) rest)
