-- The reference machine: it is fed an accepted opening and the calls with their arguments, and none of the answers.
use Rattle.std.specs.Prelude.{Bool, cond, ◌||◌, List, [], ◌∷◌, Some, None, Option, ◌==◌}
use Rattle.model.specs.declared.faults.Fault.{Fault}
use Rattle.model.specs.Faults.{row}
use Rattle.model.specs.Ranges.{Range}
use Rattle.tree.specs.Model.{Model, root_alone}
use Rattle.tree.specs.Search.{search}
use Rattle.edits.specs.Edited.{edited}
use Rattle.flat.specs.Maps.{map_of}
use Rattle.diff.specs.ChangeLists.{changes, counts}
use Rattle.access.specs.Accesses.{bytes_from, stored_from}
use Rattle.machine.specs.Calls.{Call, begin, edit, commit, drop_draft, read, write, question, clear_log, Answer, refused, changed, given, done, Opening, Machine}
use Rattle.machine.specs.Refusals.{backing, draft_of, refusal}

-- at first the root alone, no draft, and the bank's first content
abbrev pub opened : Opening → Machine
opened o = record { committed = root_alone o.size; draft = None; devices = o.devices }

abbrev pub with_draft : Machine → Option Model → Machine
with_draft m d = record { committed = m.committed; draft = d; devices = m.devices }

-- the change list from one map to another, and both counts
abbrev pub change : List Range → List Range → Answer
change old new = changed (changes old new) (counts old new)

-- What a call answers and does to which no row applies.

-- a commit answers from the maps of the trees before and after; a read gives the byte at each address's
-- place in the committed tree
abbrev pub accepted_answer : Machine → Call → Answer
accepted_answer m begin = done
accepted_answer m (edit e) = done
accepted_answer m (commit room) = change (map_of m.committed) (map_of (draft_of m))
accepted_answer m drop_draft = done
accepted_answer m (read a n) = given (bytes_from (search m.committed) m.devices a n)
accepted_answer m (write a bs) = done
accepted_answer m question = done
accepted_answer m clear_log = done

-- begin copies the committed tree, an edit alters the draft only, a commit makes it the committed tree, and a
-- write alters the bytes at the places of its addresses in turn
abbrev pub accepted_next : Machine → Call → Machine
accepted_next m begin = with_draft m (Some m.committed)
accepted_next m (edit e) = with_draft m (Some (edited (backing m.devices e) (draft_of m) e))
accepted_next m (commit room) = record { committed = draft_of m; draft = None; devices = m.devices }
accepted_next m drop_draft = with_draft m None
accepted_next m (read a n) = m
accepted_next m (write a bs) = record { committed = m.committed; draft = m.draft; devices = stored_from (search m.committed) m.devices a bs }
accepted_next m question = m
accepted_next m clear_log = m

-- A refused call changes nothing, but at 14, 15 and 16 the draft ends.

abbrev pub ends_draft : Fault → Bool
ends_draft f = (row f).number == 14 || ((row f).number == 15 || (row f).number == 16)

abbrev pub refused_next : Machine → Fault → Machine
refused_next m f = cond (ends_draft f) (with_draft m None) m

abbrev pub answer_by : Machine → Call → Option Fault → Answer
answer_by m c None = accepted_answer m c
answer_by m c (Some f) = refused f

abbrev pub next_by : Machine → Call → Option Fault → Machine
next_by m c None = accepted_next m c
next_by m c (Some f) = refused_next m f

unfoldable pub answer : Opening → Machine → Call → Answer
answer o m c = answer_by m c (refusal o m c)

unfoldable pub next : Opening → Machine → Call → Machine
next o m c = next_by m c (refusal o m c)

-- the machine after the calls cs, from m on, and its answers
abbrev pub run : Opening → Machine → List Call → Machine
run o m [] = m
run o m (c ∷ cs) = run o (next o m c) cs

abbrev pub run_answers : Opening → Machine → List Call → List Answer
run_answers o m [] = []
run_answers o m (c ∷ cs) = answer o m c ∷ run_answers o (next o m c) cs

abbrev pub after : Opening → List Call → Machine
after o cs = run o (opened o) cs

abbrev pub answers : Opening → List Call → List Answer
answers o cs = run_answers o (opened o) cs
