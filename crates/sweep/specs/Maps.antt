-- The maximal stretches of what is shown, address by address.
use Rattle.std.specs.Prelude.{ℕ, zero, suc, ◌-◌, ◌^◌, Bool, cond, List, [], ◌∷◌, Some, None, Err, Option, Result, nat_le}
use Rattle.interval.specs.declared.refusals.Refusal.{Refusal}
use Rattle.interval.specs.declared.refusals.Refusal.TheVariants.{High}
use Rattle.interval.specs.declared.stretches.Stretch.{Stretch}
use Rattle.interval.specs.Calls.{fitted}
use Rattle.interval.specs.Edits.{runs_on, merged}

module _ {L : Type 0} (advanced : L → ℕ → L) (same : L → L → Bool) where
  -- a stretch in front of those above it, one with the first of them where it runs on
  abbrev pub before : Stretch L → List (Stretch L) → List (Stretch L)
  before s [] = s ∷ []
  before s (x ∷ xs) = cond (runs_on advanced same s x) (merged s x ∷ xs) (s ∷ x ∷ xs)

  -- one address in front of the stretches above it
  abbrev pub address_before : ℕ → Option L → List (Stretch L) → List (Stretch L)
  address_before a None xs = xs
  address_before a (Some x) xs = before (record { start = a; length = 1; label = x }) xs

  -- the stretches of `n` addresses from `a` on
  unfoldable pub stretches : (ℕ → Option L) → ℕ → ℕ → List (Stretch L)
  stretches shows a zero = []
  stretches shows a (suc n) = address_before a (shows a) (stretches shows (suc a) n)

  -- the stretches of a sweep, or the first refusal that applies
  abbrev pub sweep_answer : (ℕ → Option L) → ℕ → List (Stretch L) → Result (List (Stretch L)) Refusal
  sweep_answer shows size table = cond (nat_le size (2 ^ 40)) (fitted table (stretches shows 0 size)) (Err High)

  -- a stretch with the next one behind it, if it runs on into it
  abbrev pub extension : Stretch L → Stretch L → Option (Stretch L)
  extension s x = cond (runs_on advanced same s x) (Some (merged s x)) None

  -- the stretch at hand, if there is one, in front of those above it
  abbrev pub placed : Option (Stretch L) → List (Stretch L) → List (Stretch L)
  placed None xs = xs
  placed (Some s) xs = before s xs

  -- what a walk up to `size` still has to give: the stretch at hand, with what is shown from the address on
  unfoldable pub to_come : (ℕ → Option L) → ℕ → ℕ → Option (Stretch L) → List (Stretch L)
  to_come shows size address last = placed last (stretches shows address (size - address))
