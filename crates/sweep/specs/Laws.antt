-- The law of a sweep, by what is shown at each address.
use Rattle.std.specs.Prelude.{◌≡◌, ℕ, ◌^◌, ◌<◌, ◌≤◌, Bool, cond, List, length, None, Ok, Err, Option, Result, nat_lt}
use Rattle.interval.specs.declared.refusals.Refusal.{Refusal}
use Rattle.interval.specs.declared.refusals.Refusal.TheVariants.{Empty, High, Disorder, Taken, Short}
use Rattle.interval.specs.declared.stretches.Stretch.{Stretch}
use Rattle.interval.specs.Laws.{Maximal, HoldsMaximal}

-- what is shown below `size`, and none from there on
abbrev pub below : {L : Type 0} → ℕ → (ℕ → Option L) → ℕ → Option L
below size shows a = cond (nat_lt a size) (shows a) None

module _ {L : Type 0} (advanced : L → ℕ → L) (same : L → L → Bool) (shows : ℕ → Option L) (size : ℕ) where
  -- what a refusal tells: the size is above 2^40, or every maximal list of what is shown has more stretches than the table has records
  abbrev pub Refused : List (Stretch L) → Refusal → Type 0
  Refused table High = 2 ^ 40 < size
  Refused table Short = (ys : List (Stretch L)) → Maximal advanced same (below size shows) ys → length table < length ys
  Refused table Empty = ⊥
  Refused table Disorder = ⊥
  Refused table Taken = ⊥

  -- an accepted sweep leaves the one maximal list of what is shown below `size`, and the records past it; a refusal leaves the table as it was
  abbrev pub Swept : List (Stretch L) → List (Stretch L) → Result ℕ Refusal → Type 0
  Swept was now (Ok n) = (size ≤ 2 ^ 40) × HoldsMaximal advanced same (below size shows) was now n
  Swept was now (Err e) = (now ≡ was) × Refused was e
