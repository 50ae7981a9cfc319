-- What one sighting does to what a walk still has to give.
use Rattle.std.proofs.Common.{◌≡◌, ℕ, suc, ◌+◌, ◌-◌, ◌<◌, Bool, false, List, ◌∷◌, Some, None, Option, sym, ap, ◌∙◌, inl, inr, arith}
use Rattle.std.proofs.lemmas.Bool.{cond-true, cases_Bool}
use Rattle.std.proofs.lemmas.Option.{none-some, cond_some}
use Rattle.std.specs.Option.{option_map}
use Rattle.interval.specs.declared.stretches.Stretch.{Stretch}
use Rattle.interval.specs.Edits.{runs_on, merged}
use Rattle.interval.specs.declared.sightings.Sighting.{Sighting}
use Rattle.sweep.specs.Maps.{before, stretches, extension, placed, to_come}
use Rattle.sweep.specs.Sights.{Sees}
use Rattle.sweep.proofs.Before.{Labels, stretch, before_run, before_stop, stretches_none, stretches_some}

module _ {L : Type 0} (adv : L → ℕ → L) (same : L → L → Bool) where
  ends : (s t : Stretch L) → None ≡ extension adv same s t → runs_on adv same s t ≡ false
  ends s t e = elim (cases_Bool (runs_on adv same s t)) [
    | inl on ↦ absurd (none-some _ (e ∙ cond-true _ _ _ on))
    | inr off ↦ off
  ]

  -- a walk that has come to an address below `size`, and what is sighted there
  module _ (laws : Labels adv same) (f : ℕ → Option L) (size : ℕ) (address : ℕ) (last : Option (Stretch L)) (s : Sighting L) (seen : Sees adv f address (size - address) s) (more : address < size) where
    abbrev a : ℕ
    a = address

    abbrev e : ℕ
    e = s.extent

    rest : List (Stretch L)
    rest = stretches adv same f (a + e) (size - (a + e))

    parts : size - a ≡ e + (size - (a + e))
    parts = omega (arith, seen.within)

    shown_none : s.label ≡ None → stretches adv same f a (size - a) ≡ rest
    unfolding rest
    shown_none p = ap (stretches adv same f a) parts ∙ stretches_none adv same laws f e a (size - (a + e)) (λ i lt. seen.same i lt ∙ ap (option_map (λ x. adv x i)) p)

    shown_some : (x : L) → s.label ≡ Some x → stretches adv same f a (size - a) ≡ before adv same (stretch a e x) rest
    unfolding rest
    shown_some x p =
        let some : 0 < e = seen.some (omega arith) in
        let j : suc (e - 1) ≡ e = omega arith in
        ap (stretches adv same f a) parts ∙ ap (λ n. stretches adv same f a (n + (size - (a + e)))) (sym j)
        ∙ stretches_some adv same laws f (e - 1) a (size - (a + e)) x (λ i lt. seen.same i (omega arith) ∙ ap (option_map (λ y. adv y i)) p)
        ∙ ap (λ n. before adv same (stretch a n x) (stretches adv same f (a + n) (size - (a + e)))) j

    pub step_none : s.label ≡ None → to_come adv same f size address last ≡ to_come adv same f size (a + e) last
    unfolding to_come rest
    step_none p = ap (placed adv same last) (shown_none p)

    module _ (x : L) (p : s.label ≡ Some x) where
      pub step_first : last ≡ None → to_come adv same f size address last ≡ to_come adv same f size (a + e) (Some (stretch a e x))
      unfolding to_come rest
      step_first q = ap (λ o. placed adv same o (stretches adv same f a (size - a))) q ∙ shown_some x p

      module _ (t : Stretch L) (q : last ≡ Some t) where
        held : to_come adv same f size address last ≡ before adv same t (before adv same (stretch a e x) rest)
        unfolding to_come rest
        held = ap (λ o. placed adv same o (stretches adv same f a (size - a))) q ∙ ap (before adv same t) (shown_some x p)

        pub step_longer : (r : Stretch L) → Some r ≡ extension adv same t (stretch a e x) → to_come adv same f size address last ≡ to_come adv same f size (a + e) (Some r)
        unfolding to_come rest
        step_longer r k = let h = cond_some (runs_on adv same t (stretch a e x)) (merged t (stretch a e x)) r (sym k) in held ∙ before_run adv same laws t (stretch a e x) rest h.0 ∙ ap (λ z. before adv same z rest) h.1

        pub step_ended : None ≡ extension adv same t (stretch a e x) → to_come adv same f size address last ≡ t ∷ to_come adv same f size (a + e) (Some (stretch a e x))
        unfolding to_come rest
        step_ended k = held ∙ before_stop adv same t (stretch a e x) rest (ends t (stretch a e x) k)
