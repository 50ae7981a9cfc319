-- What each call answers: the first refusal that applies, else the value.
use Rattle.std.specs.Prelude.{◌≡◌, ℕ, ◌+◌, ◌^◌, Bool, true, false, cond, List, ◌++◌, length, take, drop, Ok, Err, Option, Result, ◌==◌, nat_le}
use Rattle.std.specs.List.{between as part}
use Rattle.std.specs.Option.{option_to_list}
use Rattle.interval.specs.declared.refusals.Refusal.{Refusal}
use Rattle.interval.specs.declared.refusals.Refusal.TheVariants.{Empty, High, Disorder, Taken, Short}
use Rattle.interval.specs.declared.ordered.Ordered.{Ordered}
use Rattle.interval.specs.declared.stretches.Stretch.{Stretch}
use Rattle.interval.specs.Stretches.{ready, found, stop}
use Rattle.interval.specs.Edits.{free, ended, started, first_left, last_right, put, cut, paint, join}

-- the live records of the table, or its disorder
abbrev pub Live : {L : Type 0} → List (Stretch L) → ℕ → Result (Ordered L) Refusal → Type 0
Live table used (Ok o) = (ready table used ≡ true) × (o.live.now ≡ take used table)
Live table used (Err e) = (ready table used ≡ false) × (e ≡ Disorder)

-- whether the live records are in order, or their disorder
abbrev pub readied : {L : Type 0} → List (Stretch L) → ℕ → Result (Unit {0}) Refusal
readied table used = cond (ready table used) (Ok tt) (Err Disorder)

-- the stretch of an address, or none
abbrev pub find_answer : {L : Type 0} → List (Stretch L) → ℕ → ℕ → Result (Option (Stretch L)) Refusal
find_answer table used a = cond (ready table used) (Ok (found (take used table) a)) (Err Disorder)

-- an edit of `size` addresses from `start` on: the refusal that stands first
abbrev pub checked : {L : Type 0} → List (Stretch L) → ℕ → ℕ → ℕ → Result (Unit {0}) Refusal
checked table used start size =
    cond (size == 0) (Err Empty) (cond (nat_le (start + size) (2 ^ 40)) (cond (ready table used) (Ok tt) (Err Disorder)) (Err High))

-- the refusal of the checks, or what comes after them
abbrev pub then : {X : Type 0} → Result (Unit {0}) Refusal → Result X Refusal → Result X Refusal
then (Ok u) r = r
then (Err e) r = Err e

-- a result that has to fit the table
abbrev pub fitted : {L : Type 0} → List (Stretch L) → List (Stretch L) → Result (List (Stretch L)) Refusal
fitted table ys = cond (nat_le (length ys) (length table)) (Ok ys) (Err Short)

-- what an edit returns: the count of the live records, or the refusal
abbrev pub counted : {X : Type 0} → Result (List X) Refusal → Result ℕ Refusal
counted (Ok ys) = Ok (length ys)
counted (Err e) = Err e

-- what it leaves in the table: the result, with the records past it as they were; all as it was at a refusal
abbrev pub written : {X : Type 0} → List X → Result (List X) Refusal → List X
written table (Ok ys) = ys ++ drop (length ys) table
written table (Err e) = table

-- the live part with `pieces` in the place of the records `from` up to `to`
abbrev pub spliced : {X : Type 0} → List X → ℕ → ℕ → ℕ → List X → List X
spliced table used from to pieces = take from table ++ (pieces ++ drop to (take used table))

-- the live records that hold an address from `a` up to `e`
abbrev pub held : {L : Type 0} → List (Stretch L) → ℕ → ℕ → ℕ → List (Stretch L)
held table used a e = part (ended a (take used table)) (started e (take used table)) table

-- the live part where these gave way to what is left of them, with a piece between
abbrev pub replaced : {L : Type 0} → (L → ℕ → L) → List (Stretch L) → ℕ → ℕ → ℕ → Option (Stretch L) → List (Stretch L)
replaced advanced table used a e middle =
    spliced table used (ended a (take used table)) (started e (take used table))
    (option_to_list (first_left a (held table used a e)) ++ option_to_list middle ++ option_to_list (last_right advanced e (held table used a e)))

-- a put, where the checks have passed, and with the checks
abbrev pub put_goal : {L : Type 0} → List (Stretch L) → ℕ → Stretch L → Result (List (Stretch L)) Refusal
put_goal table used s = cond (free s.start (stop s) (take used table)) (fitted table (put (take used table) s)) (Err Taken)

abbrev pub put_answer : {L : Type 0} → List (Stretch L) → ℕ → Stretch L → Result (List (Stretch L)) Refusal
put_answer table used s = then (checked table used s.start s.length) (put_goal table used s)

-- a cut, where the checks have passed, and with the checks
abbrev pub cut_goal : {L : Type 0} → (L → ℕ → L) → List (Stretch L) → ℕ → ℕ → ℕ → Result (List (Stretch L)) Refusal
cut_goal advanced table used start size = fitted table (cut advanced start (start + size) (take used table))

abbrev pub cut_answer : {L : Type 0} → (L → ℕ → L) → List (Stretch L) → ℕ → ℕ → ℕ → Result (List (Stretch L)) Refusal
cut_answer advanced table used start size = then (checked table used start size) (cut_goal advanced table used start size)

-- a paint, where the checks have passed, and with the checks
abbrev pub paint_goal : {L : Type 0} → (L → ℕ → L) → List (Stretch L) → ℕ → Stretch L → Result (List (Stretch L)) Refusal
paint_goal advanced table used s = fitted table (paint advanced (take used table) s)

abbrev pub paint_answer : {L : Type 0} → (L → ℕ → L) → List (Stretch L) → ℕ → Stretch L → Result (List (Stretch L)) Refusal
paint_answer advanced table used s = then (checked table used s.start s.length) (paint_goal advanced table used s)

-- a join, which always fits
abbrev pub join_answer : {L : Type 0} → (L → ℕ → L) → (L → L → Bool) → List (Stretch L) → ℕ → Result (List (Stretch L)) Refusal
join_answer advanced same table used = cond (ready table used) (Ok (join advanced same (take used table))) (Err Disorder)
