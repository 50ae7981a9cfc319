-- The change list between two maps, and what the call makes of the caller's list.
use Rattle.std.specs.Prelude.{ℕ, cond, not, List, ◌++◌, map, length, drop, Ok, Err, filter, Result, nat_le}
use Rattle.interval.specs.declared.ordered.Ordered.{Ordered}
use Rattle.model.specs.declared.changes.Change.{Change}
use Rattle.model.specs.declared.changes.Change.TheVariants.{Removal, Addition}
use Rattle.model.specs.declared.faults.Fault.{Fault}
use Rattle.model.specs.declared.faults.Fault.TheVariants.{ListShort}
use Rattle.model.specs.declared.places.Place.{Place}
use Rattle.model.specs.Ranges.{Range, listed}
use Rattle.diff.specs.declared.counts.Counts.{Counts}

-- the ranges of a map
abbrev pub ranges : Ordered Place → List Range
ranges m = m.live.now

-- the ranges of xs that ys lacks, in the order of xs
abbrev pub missing : List Range → List Range → List Range
missing xs ys = filter (λ x. not (listed ys x)) xs

-- first the old ranges that the new map lacks go, then the new ones that the old map lacks come
abbrev pub changes : List Range → List Range → List Change
changes old new = map Removal (missing old new) ++ map Addition (missing new old)

abbrev pub counts : List Range → List Range → Counts
counts old new = record { removed = length (missing old new); added = length (missing new old) }

-- both counts, or the fault where the caller's list has not enough records
abbrev pub list_answer : List Range → List Range → ℕ → Result Counts Fault
list_answer old new room = cond (nat_le (length (changes old new)) room) (Ok (counts old new)) (Err ListShort)

-- the entries, with the records behind them as they were; all as it was where it has not enough
abbrev pub list_after : List Range → List Range → List Change → List Change
list_after old new was = cond (nat_le (length (changes old new)) (length was)) (changes old new ++ drop (length (changes old new)) was) was
