-- The stretches of what is shown: they rise, none runs on, and they give each address what is shown there.
use Rattle.std.proofs.Common.{◌≡◌, ℕ, zero, suc, ◌+◌, ◌-◌, ◌^◌, ◌<◌, ◌≤◌, Bool, true, eqb, ◌⊎◌, List, [], ◌∷◌, Some, None, Option, sym, refl, ap, ◌∙◌, subst, inl, inr, arith}
use Rattle.std.proofs.lemmas.Bool.{and_parts, and_from, eqb-true, le-leb, lt-ltb, le-ltb, cond-true, cond-false, cases_Bool, cases_eq, cases_lt}
use Rattle.std.proofs.lemmas.Bool.Decides.{nat_tests}
use Rattle.interval.specs.declared.stretches.Stretch.{Stretch}
use Rattle.interval.specs.Edits.{runs_on, merged}
use Rattle.interval.specs.Laws.{Settled, Maximal}
use Rattle.interval.specs.Stretches.{rising, stop, at}
use Rattle.interval.proofs.AtLaws.{at_yes, at_not, at_merged}
use Rattle.interval.proofs.Orders.{rising_from, rising_down}
use Rattle.interval.proofs.Spans.{rises}
use Rattle.sweep.specs.Laws.{below}
use Rattle.sweep.specs.Maps.{before, address_before, stretches}
use Rattle.sweep.proofs.Before.{Labels, stretch, before_on, before_off, runs_below}

module _ {L : Type 0} (adv : L → ℕ → L) (same : L → L → Bool) where
  rising_address : (a : ℕ) (o : Option L) (xs : List (Stretch L)) → a < 2 ^ 40 → rising (suc a) xs ≡ true → rising a (address_before adv same a o xs) ≡ true
  rising_address a None xs top r = rising_down (suc a) a xs (omega arith) r
  rising_address a (Some x) [] top r = rising_from a (stretch a 1 x) [] (omega arith) (omega arith) (omega arith) refl
  rising_address a (Some x) (y ∷ ys) top r =
      let p = rises (suc a) y ys r in
      let s = stretch a 1 x in
      elim (cases_Bool (runs_on adv same s y)) [
        | inl on ↦ (let touch : a + 1 ≡ y.start = eqb-true _ _ (and_parts (eqb (a + 1) y.start) _ on).0 in
            let ends : stop y ≡ stop (merged s y) = omega arith in
            ap (rising a) (before_on adv same s y ys on) ∙ rising_from a (merged s y) ys (omega arith) (omega arith) (omega (arith, p.under)) (ap (λ z. rising z ys) (sym ends) ∙ p.rest))
        | inr off ↦ ap (rising a) (before_off adv same s y ys off) ∙ rising_from a s (y ∷ ys) (omega arith) (omega arith) (omega arith) (rising_from (a + 1) y ys (omega (arith, p.above)) p.some p.under p.rest)
      ]

  rising_stretches : (f : ℕ → Option L) (n a : ℕ) → a + n ≤ 2 ^ 40 → rising a (stretches adv same f a n) ≡ true
  unfolding stretches
  rising_stretches f zero a top = refl
  rising_stretches f (suc n) a top = rising_address a (f a) (stretches adv same f (suc a) n) (omega arith) (rising_stretches f n (suc a) (omega arith))

  module _ (laws : Labels adv same) where
    settled_before : (s : Stretch L) (xs : List (Stretch L)) → Settled adv same xs → Settled adv same (before adv same s xs)
    settled_before s [] h = tt
    settled_before s (x ∷ xs) h =
        elim (cases_Bool (runs_on adv same s x)) [
          | inl on ↦ subst (Settled adv same) (sym (before_on adv same s x xs on)) (longer xs on h)
          | inr off ↦ subst (Settled adv same) (sym (before_off adv same s x xs off)) (off, h)
        ]
      where
        longer : (ys : List (Stretch L)) → runs_on adv same s x ≡ true → Settled adv same (x ∷ ys) → Settled adv same (merged s x ∷ ys)
        longer [] on k = tt
        longer (y ∷ ys) on k = (runs_below adv same laws s x y on ∙ k.0, k.1)

    settled_address : (a : ℕ) (o : Option L) (xs : List (Stretch L)) → Settled adv same xs → Settled adv same (address_before adv same a o xs)
    settled_address a None xs h = h
    settled_address a (Some x) xs h = settled_before (stretch a 1 x) xs h

    settled_stretches : (f : ℕ → Option L) (n a : ℕ) → Settled adv same (stretches adv same f a n)
    unfolding stretches
    settled_stretches f zero a = tt
    settled_stretches f (suc n) a = settled_address a (f a) (stretches adv same f (suc a) n) (settled_stretches f n (suc a))

    at_before : (b : ℕ) (s : Stretch L) (xs : List (Stretch L)) → at adv (before adv same s xs) b ≡ at adv (s ∷ xs) b
    at_before b s [] = refl
    at_before b s (x ∷ xs) =
        elim (cases_Bool (runs_on adv same s x)) [
          | inl on ↦ ap (λ z. at adv z b) (before_on adv same s x xs on) ∙ at_merged adv b laws.sum same laws.exact s x xs on
          | inr off ↦ ap (λ z. at adv z b) (before_off adv same s x xs off)
        ]

    at_own : (a : ℕ) (o : Option L) (xs : List (Stretch L)) → at adv xs a ≡ None → at adv (address_before adv same a o xs) a ≡ o
    at_own a None xs h = h
    at_own a (Some x) xs h =
        let none : a - a ≡ 0 = omega arith in
        at_before a (stretch a 1 x) xs ∙ at_yes adv a (stretch a 1 x) xs (and_from _ _ (le-leb a a (omega arith)) (lt-ltb a (a + 1) (omega arith))) ∙ ap Some (ap (adv x) none ∙ laws.zero x)

    at_other : (a b : ℕ) (o : Option L) (xs : List (Stretch L)) → (b ≡ a → ⊥) → at adv (address_before adv same a o xs) b ≡ at adv xs b
    at_other a b None xs ne = refl
    at_other a b (Some x) xs ne = at_before b (stretch a 1 x) xs ∙ at_not adv b (stretch a 1 x) xs (grind (arith, nat_tests))

    at_out : (f : ℕ → Option L) (n a b : ℕ) → (b < a) ⊎ (a + n ≤ b) → at adv (stretches adv same f a n) b ≡ None
    unfolding stretches
    at_out f zero a b out = refl
    at_out f (suc n) a b (inl low) = at_other a b (f a) (stretches adv same f (suc a) n) (λ e. omega arith) ∙ at_out f n (suc a) b (inl (omega arith))
    at_out f (suc n) a b (inr high) = at_other a b (f a) (stretches adv same f (suc a) n) (λ e. omega arith) ∙ at_out f n (suc a) b (inr (omega arith))

    at_in : (f : ℕ → Option L) (n a b : ℕ) → a ≤ b → b < a + n → at adv (stretches adv same f a n) b ≡ f b
    unfolding stretches
    at_in f zero a b low high = absurd (omega arith)
    at_in f (suc n) a b low high =
        elim (cases_eq b a) [
          | inl here ↦ ap (at adv (stretches adv same f a (suc n))) here ∙ at_own a (f a) (stretches adv same f (suc a) n) (at_out f n (suc a) a (inl (omega arith))) ∙ ap f (sym here)
          | inr other ↦ at_other a b (f a) (stretches adv same f (suc a) n) other ∙ at_in f n (suc a) b (omega arith) (omega arith)
        ]

    pub maximal : (f : ℕ → Option L) (size : ℕ) → size ≤ 2 ^ 40 → Maximal adv same (below size f) (stretches adv same f 0 size)
    maximal f size top = record {
      order = rising_stretches f size 0 (omega arith);
      settled = settled_stretches f size 0;
      labels = λ a. elim (cases_lt a size) [
        | inl low ↦ at_in f size 0 a (omega arith) (omega arith) ∙ sym (cond-true _ _ _ (lt-ltb _ _ low))
        | inr high ↦ at_out f size 0 a (inr (omega arith)) ∙ sym (cond-false _ _ _ (le-ltb _ _ high))
      ];
    }
