-- A stretch in front of others: where two run on, it does not matter which are joined first.
use Rattle.std.proofs.Common.{◌≡◌, ℕ, zero, suc, ◌+◌, ◌<◌, Bool, true, false, ◌&&◌, eqb, List, [], ◌∷◌, Some, None, Decides, Option, sym, refl, ap, ◌∙◌, inl, inr, arith}
use Rattle.std.proofs.lemmas.Bool.{and_parts, and_from, eqb-true, eq-eqb, cond-true, cond-false, cases_Bool}
use Rattle.interval.specs.declared.stretches.Stretch.{Stretch}
use Rattle.interval.specs.Edits.{runs_on, merged}
use Rattle.interval.specs.Stretches.{stop}
use Rattle.sweep.specs.Maps.{before, address_before, stretches}

-- the addresses from `a` on, `n` of them, the first with the label x
abbrev pub stretch : {L : Type 0} → ℕ → ℕ → L → Stretch L
stretch a n x = record { start = a; length = n; label = x }

-- what the sweep may use of the labels
pub record Labels {L : Type 0} (adv : L → ℕ → L) (same : L → L → Bool) : Type 0 where
  pub zero : (x : L) → adv x 0 ≡ x
  pub sum : (x : L) (i j : ℕ) → adv (adv x i) j ≡ adv x (i + j)
  pub exact : (x y : L) → Decides (same x y) (x ≡ y)

module _ {L : Type 0} (adv : L → ℕ → L) (same : L → L → Bool) where
  pub before_on : (s x : Stretch L) (xs : List (Stretch L)) → runs_on adv same s x ≡ true → before adv same s (x ∷ xs) ≡ merged s x ∷ xs
  before_on s x xs e = cond-true _ _ _ e

  pub before_off : (s x : Stretch L) (xs : List (Stretch L)) → runs_on adv same s x ≡ false → before adv same s (x ∷ xs) ≡ s ∷ x ∷ xs
  before_off s x xs e = cond-false _ _ _ e

  -- a stretch that does not run on into the next stays as it is, however long the next one grows
  pub before_stop : (s t : Stretch L) (xs : List (Stretch L)) → runs_on adv same s t ≡ false → before adv same s (before adv same t xs) ≡ s ∷ before adv same t xs
  before_stop s t [] off = before_off s t [] off
  before_stop s t (y ∷ ys) off =
      elim (cases_Bool (runs_on adv same t y)) [
        | inl on ↦ ap (before adv same s) (before_on t y ys on) ∙ before_off s (merged t y) ys off ∙ ap (λ z. s ∷ z) (sym (before_on t y ys on))
        | inr not ↦ ap (before adv same s) (before_off t y ys not) ∙ before_off s t (y ∷ ys) off ∙ ap (λ z. s ∷ z) (sym (before_off t y ys not))
      ]

  module _ (laws : Labels adv same) where
    -- what follows a merged pair is what follows the second of it
    pub runs_below : (s t y : Stretch L) → runs_on adv same s t ≡ true → runs_on adv same (merged s t) y ≡ runs_on adv same t y
    runs_below s t y on =
        let p = and_parts (eqb (stop s) t.start) _ on in
        let touch = eqb-true _ _ p.0 in
        let label : adv s.label s.length ≡ t.label = (laws.exact _ _).0 p.1 in
        let ends : stop (merged s t) ≡ stop t = omega arith in
        let far : adv s.label (s.length + t.length) ≡ adv t.label t.length = sym (laws.sum s.label s.length t.length) ∙ ap (λ z. adv z t.length) label in
        λ i. eqb (ends i) y.start && same (far i) y.label

    merged_assoc : (s t y : Stretch L) → merged s (merged t y) ≡ merged (merged s t) y
    merged_assoc s t y = let e : s.length + (t.length + y.length) ≡ (s.length + t.length) + y.length = omega arith in λ i. record { start = s.start; length = e i; label = s.label }

    pub before_run : (s t : Stretch L) (xs : List (Stretch L)) → runs_on adv same s t ≡ true → before adv same s (before adv same t xs) ≡ before adv same (merged s t) xs
    before_run s t [] on = before_on s t [] on
    before_run s t (y ∷ ys) on =
        let below = runs_below s t y on in
        elim (cases_Bool (runs_on adv same t y)) [
          | inl e ↦ ap (before adv same s) (before_on t y ys e) ∙ before_on s (merged t y) ys on ∙ ap (λ z. z ∷ ys) (merged_assoc s t y) ∙ sym (before_on (merged s t) y ys (below ∙ e))
          | inr e ↦ ap (before adv same s) (before_off t y ys e) ∙ before_on s t (y ∷ ys) on ∙ sym (before_off (merged s t) y ys (below ∙ e))
        ]

    module _ (f : ℕ → Option L) where
      shift : (a i : ℕ) → f (a + suc i) ≡ f (suc a + i)
      shift a i = let e : a + suc i ≡ suc a + i = omega arith in ap f e

      first : (a : ℕ) → f (a + 0) ≡ f a
      first a = let e : a + 0 ≡ a = omega arith in ap f e

      -- nothing is shown at the first j addresses
      pub stretches_none : (j a k : ℕ) → ((i : ℕ) → i < j → f (a + i) ≡ None) → stretches adv same f a (j + k) ≡ stretches adv same f (a + j) k
      unfolding stretches
      stretches_none zero a k h =
          let p : 0 + k ≡ k = omega arith in
          let q : a + 0 ≡ a = omega arith in
          ap (stretches adv same f a) p ∙ sym (ap (λ b. stretches adv same f b k) q)
      stretches_none (suc j) a k h =
          let p : suc j + k ≡ suc (j + k) = omega arith in
          let q : suc a + j ≡ a + suc j = omega arith in
          ap (stretches adv same f a) p ∙ ap (λ o. address_before adv same a o (stretches adv same f (suc a) (j + k))) (sym (first a) ∙ h 0 (omega arith))
          ∙ stretches_none j (suc a) k (λ i lt. sym (shift a i) ∙ h (suc i) (omega arith)) ∙ ap (λ b. stretches adv same f b k) q

      -- at the first j + 1 addresses the label x runs on
      pub stretches_some : (j a k : ℕ) (x : L) → ((i : ℕ) → i < suc j → f (a + i) ≡ Some (adv x i)) → stretches adv same f a (suc j + k) ≡ before adv same (stretch a (suc j) x) (stretches adv same f (a + suc j) k)
      unfolding stretches
      stretches_some zero a k x h =
          let p : 1 + k ≡ suc k = omega arith in
          let q : suc a ≡ a + 1 = omega arith in
          ap (stretches adv same f a) p ∙ ap (λ o. address_before adv same a o (stretches adv same f (suc a) k)) (sym (first a) ∙ h 0 (omega arith) ∙ ap Some (laws.zero x))
          ∙ ap (λ b. before adv same (stretch a 1 x) (stretches adv same f b k)) q
      stretches_some (suc j) a k x h =
          let p : suc (suc j) + k ≡ suc (suc j + k) = omega arith in
          let q : suc a + suc j ≡ a + suc (suc j) = omega arith in
          let touch : a + 1 ≡ suc a = omega arith in
          let on : runs_on adv same (stretch a 1 x) (stretch (suc a) (suc j) (adv x 1)) ≡ true = and_from _ _ (eq-eqb (a + 1) (suc a) touch) ((laws.exact (adv x 1) (adv x 1)).1 refl) in
          let long : 1 + suc j ≡ suc (suc j) = omega arith in
          ap (stretches adv same f a) p
          ∙ ap (λ o. address_before adv same a o (stretches adv same f (suc a) (suc j + k))) (sym (first a) ∙ h 0 (omega arith) ∙ ap Some (laws.zero x))
          ∙ ap (before adv same (stretch a 1 x)) (stretches_some j (suc a) k (adv x 1) (λ i lt. let n : 1 + i ≡ suc i = omega arith in sym (shift a i) ∙ h (suc i) (omega arith) ∙ ap Some (sym (laws.sum x 1 i ∙ ap (adv x) n))))
          ∙ before_run (stretch a 1 x) (stretch (suc a) (suc j) (adv x 1)) _ on
          ∙ (λ i. before adv same (stretch a (long i) x) (stretches adv same f (q i) k))
