-- The refusals of the calls. Each call has its rows in the order of their numbers, and the first that applies decides.
use Rattle.std.specs.Prelude.{ℕ, true, false, cond, not, List, [], ◌∷◌, length, is_some, Some, None, Option, nat_le, nat_lt}
use Rattle.model.specs.declared.faults.Fault.{Fault}
use Rattle.model.specs.declared.faults.Fault.TheVariants.{DraftStands, NoDraft, BadSize, MapFull, ListenerFull, ListShort, ListenerInUse}
use Rattle.model.specs.declared.kinds.Kind.TheVariants.{Rom}
use Rattle.model.specs.Ranges.{Range}
use Rattle.model.specs.Rows.{Row, first_applying}
use Rattle.tree.specs.Bounds.{bad_size}
use Rattle.tree.specs.Model.{Model}
use Rattle.tree.specs.Search.{search}
use Rattle.edits.specs.declared.edit.Edit.{Edit}
use Rattle.edits.specs.declared.edit.Edit.TheVariants.{Container, Leaf, Alias, Attach, Detach, Move, Switch, Protect, Remove}
use Rattle.edits.specs.declared.edit.Backing.{Backing}
use Rattle.edits.specs.Rows.{edit_rows}
use Rattle.flat.specs.Maps.{map_of}
use Rattle.diff.specs.ChangeLists.{changes}
use Rattle.diff.specs.Laws.{of_kinds}
use Rattle.access.specs.Accesses.{access_rows}
use Rattle.machine.specs.Calls.{Devices, Call, begin, edit, commit, drop_draft, read, write, question, clear_log, Opening, Machine}

-- what a bank lacks: rom without a byte
abbrev pub no_backing : Backing
no_backing = record { kind = Rom; length = 0 }

-- a device as the bank has it; a number above 65,535 has none
abbrev pub backing_at : Devices → ℕ → Backing
backing_at ds d = cond (nat_le d 65535) (record { kind = (ds d).kind; length = length (ds d).bytes }) no_backing

-- the device that a leaf is made over; the other edits ask for none
abbrev pub backing : Devices → Edit → Backing
backing ds (Container n s) = no_backing
backing ds (Leaf n s d) = backing_at ds d
backing ds (Alias n s r f) = no_backing
backing ds (Attach n p o i) = no_backing
backing ds (Detach n) = no_backing
backing ds (Move n o) = no_backing
backing ds (Switch n v) = no_backing
backing ds (Protect n v) = no_backing
backing ds (Remove n) = no_backing

-- the draft; where none stands, that decides, and this does not count
abbrev pub or_committed : Model → Option Model → Model
or_committed t None = t
or_committed t (Some d) = d

abbrev pub draft_of : Machine → Model
draft_of m = or_committed m.committed m.draft

unfoldable pub rows : Opening → Machine → Call → List Row
rows o m begin =
    (is_some m.draft, DraftStands) ∷ []
rows o m (edit e) =
    (not (is_some m.draft), NoDraft) ∷
    edit_rows (backing m.devices e) (draft_of m) e
rows o m (commit room) =
    (not (is_some m.draft), NoDraft) ∷
    (nat_lt 256 (length (map_of (draft_of m))), MapFull) ∷
    (nat_lt o.capacity (length (of_kinds o.kinds (map_of (draft_of m)))), ListenerFull) ∷
    (nat_lt room (length (changes (map_of m.committed) (map_of (draft_of m)))), ListShort) ∷ []
rows o m drop_draft =
    (not (is_some m.draft), NoDraft) ∷ []
rows o m (read a n) = access_rows false (search m.committed) a n
rows o m (write a bs) = access_rows true (search m.committed) a (length bs)
rows o m question = []
rows o m clear_log = []

-- the fault that a call answers, if it is refused
unfoldable pub refusal : Opening → Machine → Call → Option Fault
refusal o m c = first_applying (rows o m c)

-- an opening is refused for a bad size of the root, then over a listener that holds a range
abbrev pub opening_refusal : ℕ → List Range → Option Fault
opening_refusal size held = first_applying ((bad_size size, BadSize) ∷ (nat_lt 0 (length held), ListenerInUse) ∷ [])
