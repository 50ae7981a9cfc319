-- The change lists of a run: what came of the accepted commits.
use Rattle.std.specs.Prelude.{◌≡◌, List, [], ◌∷◌, ◌++◌, Some}
use Rattle.model.specs.declared.changes.Change.{Change}
use Rattle.flat.specs.Maps.{map_of}
use Rattle.diff.specs.Laws.{carry_out, of_kinds, entries_of_kinds}
use Rattle.machine.specs.Calls.{Call, Answer, refused, changed, given, done, Opening}
use Rattle.machine.specs.Machine.{after, answers}

-- the changes of an answer: those of an accepted commit, else none
abbrev pub changes_in : Answer → List Change
changes_in (refused f) = []
changes_in (changed list counts) = list
changes_in (given bytes) = []
changes_in done = []

-- the change lists of all answers, one after the other
abbrev pub all_changes : List Answer → List Change
all_changes [] = []
all_changes (r ∷ rs) = changes_in r ++ all_changes rs

-- the change lists of the accepted commits, carried out in turn from the empty map, give the map worked out
-- afresh from the committed tree
abbrev pub Replayed : Opening → List Call → Type 0
Replayed o cs = carry_out (all_changes (answers o cs)) [] ≡ Some (map_of (after o cs).committed)

-- whoever hears of them the entries of the listener's kinds, and carries these out in turn from nothing, holds
-- exactly that map's ranges of these kinds
abbrev pub Heard : Opening → List Call → Type 0
Heard o cs = carry_out (entries_of_kinds o.kinds (all_changes (answers o cs))) [] ≡ Some (of_kinds o.kinds (map_of (after o cs).committed))
