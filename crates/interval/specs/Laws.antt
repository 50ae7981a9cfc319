-- The laws of the calls, by what stands at each address before and after.
use Rattle.std.specs.Prelude.{◌≡◌, ℕ, ◌+◌, ◌-◌, Bool, true, false, cond, ◌&&◌, List, [], ◌∷◌, take, drop, Some, None, Ok, Err, Option, Result, ◌≢◌, nat_le, nat_lt}
use mathlib.Core.List.{Memᴰ}
use Rattle.interval.specs.declared.refusals.Refusal.{Refusal}
use Rattle.interval.specs.declared.refusals.Refusal.TheVariants.{Empty, High, Disorder, Taken, Short}
use Rattle.interval.specs.declared.stretches.Stretch.{Stretch}
use Rattle.interval.specs.Stretches.{rising, ready, holds, at}
use Rattle.interval.specs.Edits.{runs_on}

-- a stretch that is found is one of the live ones and holds the address; where none is found, no live one holds it
abbrev pub Finds : {L : Type 0} → List (Stretch L) → ℕ → Option (Stretch L) → Type 0
Finds live a (Some s) = Memᴰ s live × (holds s a ≡ true)
Finds {L} live a None = (s : Stretch L) → Memᴰ s live → holds s a ≡ false

-- the answer of a find
abbrev pub FindStands : {L : Type 0} → List (Stretch L) → ℕ → ℕ → Result (Option (Stretch L)) Refusal → Type 0
FindStands table used a (Ok r) = (ready table used ≡ true) × Finds (take used table) a r
FindStands table used a (Err e) = (ready table used ≡ false) × (e ≡ Disorder)

-- the labels of a stretch at its own addresses, and elsewhere what `shows` says
abbrev pub with_stretch : {L : Type 0} → (L → ℕ → L) → Stretch L → (ℕ → Option L) → ℕ → Option L
with_stretch advanced s shows a = cond (holds s a) (Some (advanced s.label (a - s.start))) (shows a)

-- none from `start` up to `end`, and elsewhere what `shows` says
abbrev pub without : {L : Type 0} → ℕ → ℕ → (ℕ → Option L) → ℕ → Option L
without start end shows a = cond (nat_le start a && nat_lt a end) None (shows a)

-- the first `n` records are in order, give each address what `shows` says, and the records past them are as before
pub record Stands {L : Type 0} (advanced : L → ℕ → L) (shows : ℕ → Option L) (was now : List (Stretch L)) (n : ℕ) : Type 0 where
  pub order : ready now n ≡ true
  pub labels : (a : ℕ) → at advanced (take n now) a ≡ shows a
  pub past : drop n now ≡ drop n was

-- an edit that is accepted leaves a table that stands so; a refusal leaves the table as it was
abbrev pub Edited : {L : Type 0} → (L → ℕ → L) → (ℕ → Option L) → List (Stretch L) → List (Stretch L) → Result ℕ Refusal → Type 0
Edited advanced shows was now (Ok n) = Stands advanced shows was now n
Edited advanced shows was now (Err e) = now ≡ was

-- a put or a paint gives its addresses the new labels, and leaves all others
abbrev pub Laid : {L : Type 0} → (L → ℕ → L) → List (Stretch L) → ℕ → Stretch L → List (Stretch L) → Result ℕ Refusal → Type 0
Laid advanced was used s now r = Edited advanced (with_stretch advanced s (at advanced (take used was))) was now r

-- a put is accepted only where all its addresses were free, and refused as taken only where one was not
abbrev pub OnFree : {L X : Type 0} → (L → ℕ → L) → List (Stretch L) → Stretch L → Result X Refusal → Type 0
OnFree advanced was s (Ok x) = (a : ℕ) → holds s a ≡ true → at advanced was a ≡ None
OnFree advanced was s (Err Taken) = (a : ℕ) × (holds s a ≡ true) × (at advanced was a ≢ None)
OnFree advanced was s (Err Empty) = Unit {0}
OnFree advanced was s (Err High) = Unit {0}
OnFree advanced was s (Err Disorder) = Unit {0}
OnFree advanced was s (Err Short) = Unit {0}

-- the same of a put into a table
abbrev pub WasFree : {L : Type 0} → (L → ℕ → L) → List (Stretch L) → ℕ → Stretch L → Result ℕ Refusal → Type 0
WasFree advanced was used s r = OnFree advanced (take used was) s r

-- a cut leaves none of its addresses, and all others as they were
abbrev pub CutOut : {L : Type 0} → (L → ℕ → L) → List (Stretch L) → ℕ → ℕ → ℕ → List (Stretch L) → Result ℕ Refusal → Type 0
CutOut advanced was used start size now r = Edited advanced (without start (start + size) (at advanced (take used was))) was now r

-- no stretch runs on into the next
abbrev pub Settled : {L : Type 0} → (L → ℕ → L) → (L → L → Bool) → List (Stretch L) → Type 0
Settled advanced same [] = Unit {0}
Settled advanced same (x ∷ []) = Unit {0}
Settled advanced same (x ∷ y ∷ ys) = (runs_on advanced same x y ≡ false) × Settled advanced same (y ∷ ys)

-- a list that is in order, in which none runs on, and that gives each address what `shows` says
pub record Maximal {L : Type 0} (advanced : L → ℕ → L) (same : L → L → Bool) (shows : ℕ → Option L) (xs : List (Stretch L)) : Type 0 where
  pub order : rising 0 xs ≡ true
  pub settled : Settled advanced same xs
  pub labels : (a : ℕ) → at advanced xs a ≡ shows a

-- the first `n` records stand for what `shows` says, none runs on, and no other list is like them
pub record HoldsMaximal {L : Type 0} (advanced : L → ℕ → L) (same : L → L → Bool) (shows : ℕ → Option L) (was now : List (Stretch L)) (n : ℕ) : Type 0 where
  pub stands : Stands advanced shows was now n
  pub settled : Settled advanced same (take n now)
  pub only : (ys : List (Stretch L)) → Maximal advanced same shows ys → ys ≡ take n now

-- a join changes nothing at any address, and leaves the one list in which none runs on
abbrev pub Joined : {L : Type 0} → (L → ℕ → L) → (L → L → Bool) → List (Stretch L) → ℕ → List (Stretch L) → Result ℕ Refusal → Type 0
Joined advanced same was used now (Ok n) = HoldsMaximal advanced same (at advanced (take used was)) was now n
Joined advanced same was used now (Err e) = now ≡ was
