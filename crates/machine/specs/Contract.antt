-- What every call of a space promises: whatever calls led to it, it does what the machine does.
use Rattle.std.specs.Prelude.{◌≡◌, ℕ, Bool, false, List, [], ◌∷◌, ◌++◌, Some, None, Option}
use Rattle.model.specs.declared.changes.Change.{Change}
use Rattle.model.specs.declared.kinds.Kind.{Kind}
use Rattle.model.specs.Ranges.{Range}
use Rattle.tree.specs.Bounds.{bad_size}
use Rattle.tree.specs.Model.{Model}
use Rattle.tree.specs.Paths.{Lawful}
use Rattle.tree.specs.Sights.{Agrees}
use Rattle.flat.specs.Laws.{AllLie, RuledBy}
use Rattle.flat.specs.Maps.{map_of}
use Rattle.diff.specs.declared.counts.Counts.{Counts}
use Rattle.diff.specs.Laws.{Counted, Fewest, of_kinds}
use Rattle.machine.specs.Calls.{Devices, Call, read, Answer, changed, given, Opening}
use Rattle.machine.specs.Machine.{answer, after}
use Rattle.machine.specs.Lists.{Replayed, Heard}
use Rattle.machine.specs.History.{ReadBytes}

-- where a space stands: its trees and its map, what its bank means and what its listener means
pub record State : Type 0 where
  pub tree : Model
  pub draft : Option Model
  pub map : List Range
  pub devices : Devices
  pub held : List Range
  pub kinds : Kind → Bool
  pub capacity : ℕ

-- the machine, opened with the accepted opening o and fed the calls cs, stands where the space stands; the space's
-- map is that of the committed tree, and its listener holds exactly that map's ranges of the kinds it takes
pub record Leads (o : Opening) (cs : List Call) (s : State) : Type 0 where
  pub accepted : bad_size o.size ≡ false
  pub tree : s.tree ≡ (after o cs).committed
  pub draft : s.draft ≡ (after o cs).draft
  pub devices : s.devices ≡ (after o cs).devices
  pub map : s.map ≡ map_of (after o cs).committed
  pub held : s.held ≡ of_kinds o.kinds (map_of (after o cs).committed)
  pub kinds : s.kinds ≡ o.kinds
  pub capacity : s.capacity ≡ o.capacity

-- of an accepted commit: the counts add up to the entries, and every other list of single removals and additions
-- that turns the ranges before into the ranges after has at least as many
pub record Least (list : List Change) (counts : Counts) (old new : List Range) : Type 0 where
  pub counted : Counted counts list
  pub fewest : Fewest old new list

-- no path of the draft comes back or has over 8 edges
abbrev pub LawfulDraft : Option Model → Type 0
LawfulDraft None = Unit {0}
LawfulDraft (Some t) = Lawful t

-- in the tree t the search as the rule has it and the search as a function are one, and the ranges give every
-- address what the rule finds there; each lies in its leaf
pub record Mapped (t : Model) (ranges : List Range) : Type 0 where
  pub lawful : Lawful t
  pub agrees : Agrees t
  pub ruled : RuledBy t ranges
  pub lie : AllLie t ranges

-- in every tree that any list of calls commits, the search as the rule has it and as a function are one: so
-- wherever a definition speaks of the search of a tree, it speaks of the rule
abbrev pub RunsAgree : Opening → Type 0
RunsAgree o = (cs : List Call) → Agrees (after o cs).committed

-- the call c after the calls cs answers r and leaves the space at s
pub record Keeps (o : Opening) (cs : List Call) (c : Call) (r : Answer) (s : State) : Type 0 where
  pub leads : Leads o (cs ++ c ∷ []) s
  pub answers : r ≡ answer o (after o cs) c
  pub replays : Replayed o (cs ++ c ∷ [])
  pub heard : Heard o (cs ++ c ∷ [])
  pub least : (list : List Change) (counts : Counts) → r ≡ changed list counts → Least list counts (map_of (after o cs).committed) s.map
  pub reads : (a n : ℕ) (bytes : List ℕ) → c ≡ read a n → r ≡ given bytes → ReadBytes o cs a n bytes
  pub mapped : Mapped s.tree s.map
  pub drafted : LawfulDraft s.draft
  pub agree : RunsAgree o

-- a step as the machine makes it is all that a call's own proof has to show
abbrev pub Suffices : Type 0
Suffices = (o : Opening) (cs : List Call) (c : Call) (r : Answer) (s : State) → Leads o (cs ++ c ∷ []) s → r ≡ answer o (after o cs) c → Keeps o cs c r s
