-- Carrying out a change list on a set of ranges, which is written as a list rising by start.
use Rattle.std.specs.Prelude.{◌≡◌, ℕ, ◌+◌, cond, ◌&&◌, List, [], ◌∷◌, ◌++◌, length, take, drop, Some, None, Ok, Err, Option, Result, nat_le}
use Rattle.interval.specs.declared.refusals.Refusal.{Refusal}
use Rattle.interval.specs.declared.refusals.Refusal.TheVariants as refusal
use Rattle.interval.specs.Stretches.{ready, lawful, stop}
use Rattle.interval.specs.Edits.{free, put}
use Rattle.model.specs.declared.changes.Change.{Change}
use Rattle.model.specs.declared.changes.Change.TheVariants.{Removal, Addition}
use Rattle.model.specs.Ranges.{Range, listed, without}
use Rattle.replay.specs.declared.failures.Failure.{Failure}
use Rattle.replay.specs.declared.failures.Failure.TheVariants.{Disorder, Entry, Full}

-- a removal takes out a held range
abbrev pub removed : List Range → Range → Option (List Range)
removed held r = cond (listed held r) (Some (without held r)) None

-- an addition puts in a range that overlaps no held one
abbrev pub added : List Range → Range → Option (List Range)
added held r = cond (lawful r.start r.length && free r.start (stop r) held) (Some (put held r)) None

-- what an entry makes of the held ranges, if it can be carried out
abbrev pub carried : Change → List Range → Option (List Range)
carried (Removal r) held = removed held r
carried (Addition r) held = added held r

-- the same in a table of `room` records; the entry is number i
abbrev pub fit : ℕ → ℕ → Option (List Range) → Result (List Range) Failure
fit room i None = Err (Entry i)
fit room i (Some held) = cond (nat_le (length held) room) (Ok held) (Err (Full i))

-- what a refused put says of entry i
abbrev pub blame : ℕ → Refusal → Failure
blame i refusal.Empty = Entry i
blame i refusal.High = Entry i
blame i refusal.Disorder = Entry i
blame i refusal.Taken = Entry i
blame i refusal.Short = Full i

abbrev pub and_then : Result (List Range) Failure → (List Range → Result (List Range) Failure) → Result (List Range) Failure
and_then (Ok held) f = f held
and_then (Err e) f = Err e

-- the entries in turn, of which the first is number i; the first that fails ends the list
abbrev pub carry_from : ℕ → ℕ → List Change → List Range → Result (List Range) Failure
carry_from room i [] held = Ok held
carry_from room i (c ∷ cs) held = and_then (fit room i (carried c held)) (carry_from room (i + 1) cs)

-- the list carried out on the first `used` records of a table
abbrev pub carry_answer : List Range → ℕ → List Change → Result (List Range) Failure
carry_answer table used cs = cond (ready table used) (carry_from (length table) 0 cs (take used table)) (Err Disorder)

-- what is answered: the count of the held ranges, or the failure
abbrev pub counted : Result (List Range) Failure → Result ℕ Failure
counted (Ok held) = Ok (length held)
counted (Err e) = Err e

-- what the table then holds: the ranges, with the records behind them as they were; all as it was at a failure
abbrev pub written : List Range → Result (List Range) Failure → List Range
written table (Ok held) = held ++ drop (length held) table
written table (Err e) = table

-- the ranges are now the answer's, or the failure is answered
abbrev pub Carried : Result (List Range) Failure → List Range → Result (Unit {0}) Failure → Type 0
Carried goal now (Ok u) = goal ≡ Ok now
Carried goal now (Err e) = goal ≡ Err e
