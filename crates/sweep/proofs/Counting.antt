-- Where a walk begins and ends, and what the pass that writes keeps.
use Rattle.std.proofs.Common.{◌≡◌, ℕ, ◌-◌, ◌≤◌, Bool, List, [], ◌∷◌, ◌++◌, length, take, drop, None, Some, Option, sym, refl, ap, ◌∙◌, arith}
use Rattle.std.specs.Option.{option_to_list, MatchOption}
use Rattle.interval.specs.declared.stretches.Stretch.{Stretch}
use Rattle.sweep.specs.Maps.{stretches, placed, to_come}

module _ {L : Type 0} (adv : L → ℕ → L) (same : L → L → Bool) (f : ℕ → Option L) (size : ℕ) where
  pub come_start : to_come adv same f size 0 None ≡ stretches adv same f 0 size
  unfolding to_come
  come_start = let e : size - 0 ≡ size = omega arith in ap (stretches adv same f 0) e

  pub come_end : (address : ℕ) (last : Option (Stretch L)) → size ≤ address → to_come adv same f size address last ≡ option_to_list last
  unfolding to_come stretches
  come_end address last done =
      let e : size - address ≡ 0 = omega arith in
      ap (λ n. placed adv same last (stretches adv same f address n)) e ∙ alone last
    where
      alone : (o : Option (Stretch L)) → placed adv same o [] ≡ option_to_list o
      alone None = refl
      alone (Some s) = refl

  -- the last stretch, once the walk has come to `size`
  pub last_given : (address : ℕ) (last next : Option (Stretch L)) (was : List (Stretch L)) (r : Option (Stretch L)) → was ≡ to_come adv same f size address last → size ≤ address → r ≡ last → next ≡ None
      → MatchOption r ((was ≡ []) × (to_come adv same f size address next ≡ [])) (λ x. was ≡ x ∷ to_come adv same f size address next)
  last_given address last next was None e done is gone = (e ∙ come_end address last done ∙ ap option_to_list (sym is), come_end address next done ∙ ap option_to_list gone)
  last_given address last next was (Some x) e done is gone =
      e ∙ come_end address last done ∙ ap option_to_list (sym is) ∙ ap (λ z. x ∷ z) (sym (come_end address next done ∙ ap option_to_list gone))

-- of `all` that a pass writes into the front of `start`, `done` are written, and `rest` are to come
module _ {X : Type 0} (all start : List X) where
  pub record Filled (rest : List X) (done : ℕ) (table : List X) : Type 0 where
    pub under : done ≤ length start
    pub front : take done table ++ rest ≡ all
    pub past : drop done table ≡ drop done start
