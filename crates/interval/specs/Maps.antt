-- What each edit makes of the stretches of a map that has room for `room` of them.
use Rattle.std.specs.Prelude.{◌≡◌, ℕ, ◌+◌, ◌^◌, true, false, cond, List, length, take, Ok, Err, Result, ◌==◌, Option, nat_le}
use Rattle.interval.specs.declared.maps.IntervalMap.{IntervalMap}
use Rattle.interval.specs.declared.refusals.Refusal.{Refusal}
use Rattle.interval.specs.declared.refusals.Refusal.TheVariants.{Empty, High, Disorder, Taken, Short}
use Rattle.interval.specs.declared.stretches.Stretch.{Stretch}
use Rattle.interval.specs.Edits.{free, put, cut, paint}
use Rattle.interval.specs.Laws.{with_stretch, without}
use Rattle.interval.specs.Stretches.{ready, stop, at}

-- the stretches of a map
abbrev pub live : {L : Type 0} {N : ℕ} → IntervalMap L N → List (Stretch L)
live m = take m.used m.records

-- the map of the first records of a table, or the disorder of these
abbrev pub Tabled : {L : Type 0} {N : ℕ} → List (Stretch L) → ℕ → Result (IntervalMap L N) Refusal → Type 0
Tabled table used (Ok m) = (ready table used ≡ true) × (live m ≡ take used table)
Tabled table used (Err e) = (ready table used ≡ false) × (e ≡ Disorder)

-- a result that has to fit
abbrev pub within : {L : Type 0} → ℕ → List (Stretch L) → Result (List (Stretch L)) Refusal
within room xs = cond (nat_le (length xs) room) (Ok xs) (Err Short)

-- an edit of `size` addresses from `start` on, which has to have an address and none from 2^40 on
abbrev pub spanned : {X : Type 0} → ℕ → ℕ → Result X Refusal → Result X Refusal
spanned start size r = cond (size == 0) (Err Empty) (cond (nat_le (start + size) (2 ^ 40)) r (Err High))

-- a put, a cut and a paint: the first refusal that applies, or the stretches after it
abbrev pub put_into : {L : Type 0} → ℕ → List (Stretch L) → Stretch L → Result (List (Stretch L)) Refusal
put_into room xs s = spanned s.start s.length (cond (free s.start (stop s) xs) (within room (put xs s)) (Err Taken))

abbrev pub cut_from : {L : Type 0} → (L → ℕ → L) → ℕ → List (Stretch L) → ℕ → ℕ → Result (List (Stretch L)) Refusal
cut_from advanced room xs start size = spanned start size (within room (cut advanced start (start + size) xs))

abbrev pub paint_into : {L : Type 0} → (L → ℕ → L) → ℕ → List (Stretch L) → Stretch L → Result (List (Stretch L)) Refusal
paint_into advanced room xs s = spanned s.start s.length (within room (paint advanced xs s))

-- what an edit answers, and which stretches it leaves: those after it, or all as they were at a refusal
abbrev pub done : {X : Type 0} → Result X Refusal → Result (Unit {0}) Refusal
done (Ok xs) = Ok tt
done (Err e) = Err e

abbrev pub kept : {X : Type 0} → X → Result X Refusal → X
kept was (Ok xs) = xs
kept was (Err e) = was

-- an edit that is accepted gives each address what `shows` says; a refusal leaves all stretches
abbrev pub Shown : {L : Type 0} → (L → ℕ → L) → (ℕ → Option L) → (was now : List (Stretch L)) → Result (Unit {0}) Refusal → Type 0
Shown advanced shows was now (Ok u) = (a : ℕ) → at advanced now a ≡ shows a
Shown advanced shows was now (Err e) = now ≡ was

-- a put or a paint gives its addresses the new labels, and leaves all others
abbrev pub LaidOver : {L : Type 0} → (L → ℕ → L) → List (Stretch L) → Stretch L → List (Stretch L) → Result (Unit {0}) Refusal → Type 0
LaidOver advanced was s now r = Shown advanced (with_stretch advanced s (at advanced was)) was now r

-- a cut leaves none of its addresses, and all others as they were
abbrev pub CutAway : {L : Type 0} → (L → ℕ → L) → List (Stretch L) → ℕ → ℕ → List (Stretch L) → Result (Unit {0}) Refusal → Type 0
CutAway advanced was start size now r = Shown advanced (without start (start + size) (at advanced was)) was now r
