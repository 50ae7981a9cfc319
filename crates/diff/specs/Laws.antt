-- What a change list is good for.
use Rattle.std.specs.Prelude.{◌≡◌, ℕ, ◌+◌, ◌≤◌, Bool, true, false, List, [], ◌∷◌, ◌++◌, length, take, Some, None, Ok, count_by, filter, Option}
use Rattle.std.specs.List.{AllByRecursion}
use Rattle.interval.specs.Stretches.{rising}
use Rattle.model.specs.declared.changes.Change.{Change}
use Rattle.model.specs.declared.changes.Change.TheVariants.{Removal, Addition}
use Rattle.model.specs.declared.kinds.Kind.{Kind}
use Rattle.model.specs.Changes.{range_of}
use Rattle.model.specs.Ranges.{Range}
use Rattle.replay.specs.CarryOut.{carried, carry_from}
use Rattle.diff.specs.declared.counts.Counts.{Counts}
use Rattle.diff.specs.ChangeLists.{changes}
use Rattle.diff.specs.Sets.{Turns}

-- the entries that a call has written into the front of the caller's list
abbrev pub entries : Counts → List Change → List Change
entries c list = take (c.removed + c.added) list

-- Carrying out, with no bound on how many ranges are held.

abbrev pub and_then : Option (List Range) → (List Range → Option (List Range)) → Option (List Range)
and_then None f = None
and_then (Some held) f = f held

-- the entries in turn on the held ranges; one that fails fails the list
abbrev pub carry_out : List Change → List Range → Option (List Range)
carry_out [] held = Some held
carry_out (c ∷ cs) held = and_then (carried c held) (carry_out cs)

-- carried out on the old ranges, the list gives the new ones; a table that has room for either map
-- has room on the way, whatever number the first entry has
pub record Replays (old new : List Range) (cs : List Change) : Type 0 where
  pub gives : carry_out cs old ≡ Some new
  pub in_table : (room i : ℕ) → length old ≤ room → length new ≤ room → carry_from room i cs old ≡ Ok new

-- after any list that gives the old map from the empty one, it gives the new map; so too in a table
-- that has room for both maps
pub record Succeeds (old new : List Range) (cs : List Change) : Type 0 where
  pub gives : (before : List Change) → carry_out before [] ≡ Some old → carry_out (before ++ cs) [] ≡ Some new
  pub in_table : (room : ℕ) (before : List Change) → length old ≤ room → length new ≤ room → carry_from room 0 before [] ≡ Ok old → carry_from room 0 (before ++ cs) [] ≡ Ok new

-- the change lists of successive maps, from the map `old` on, in one list; and the last of the maps
abbrev pub all_changes : List Range → List (List Range) → List Change
all_changes old [] = []
all_changes old (new ∷ maps) = changes old new ++ all_changes new maps

abbrev pub last_map : List Range → List (List Range) → List Range
last_map old [] = old
last_map old (new ∷ maps) = last_map new maps

-- carried out in turn from the empty map, the change lists of any successive maps give the last; so
-- too in a table that has room for each map
pub record RunsReplay : Type 0 where
  pub gives : (maps : List (List Range)) → AllByRecursion (λ m. rising 0 m ≡ true) maps → carry_out (all_changes [] maps) [] ≡ Some (last_map [] maps)
  pub in_table : (room : ℕ) (maps : List (List Range)) → AllByRecursion (λ m. rising 0 m ≡ true) maps → AllByRecursion (λ m. length m ≤ room) maps → carry_from room 0 (all_changes [] maps) [] ≡ Ok (last_map [] maps)

-- what a table of any size carries out, the rule without a bound does; and what that rule carries
-- out, a table does that has a record for each held range and each entry
pub record OneRule : Type 0 where
  pub from_table : (room i : ℕ) (cs : List Change) (held after : List Range) → carry_from room i cs held ≡ Ok after → carry_out cs held ≡ Some after
  pub to_table : (room i : ℕ) (cs : List Change) (held after : List Range) → length held + length cs ≤ room → carry_out cs held ≡ Some after → carry_from room i cs held ≡ Ok after

-- The counts.

abbrev pub is_removal : Change → Bool
is_removal (Removal r) = true
is_removal (Addition r) = false

abbrev pub is_addition : Change → Bool
is_addition (Removal r) = false
is_addition (Addition r) = true

pub record Counted (c : Counts) (cs : List Change) : Type 0 where
  pub removals : c.removed ≡ count_by is_removal cs
  pub additions : c.added ≡ count_by is_addition cs
  pub together : c.removed + c.added ≡ length cs

-- the entries turn the old set into the new one, and no other list of single removals and additions
-- that does so has fewer
pub record Fewest (old new : List Range) (cs : List Change) : Type 0 where
  pub turns : Turns cs old new
  pub fewest : (others : List Change) → Turns others old new → length cs ≤ length others

-- Kinds.

-- the ranges of some kinds, and the entries of some kinds
abbrev pub of_kinds : (Kind → Bool) → List Range → List Range
of_kinds kinds xs = filter (λ r. kinds r.label.kind) xs

abbrev pub entries_of_kinds : (Kind → Bool) → List Change → List Change
entries_of_kinds kinds cs = filter (λ c. kinds (range_of c).label.kind) cs

-- whoever hears the entries of some kinds follows the ranges of these kinds
abbrev pub ToldByKind : List Range → List Range → List Change → Type 0
ToldByKind old new cs = (kinds : Kind → Bool) → Replays (of_kinds kinds old) (of_kinds kinds new) (entries_of_kinds kinds cs)
