-- Lines and lists of lines, as they are found on the way.
use Rattle.std.specs.Prelude.{◌≡◌, ℕ, ◌^◌, ◌≤◌, ◌≢◌, List, [], ◌++◌, length as len, drop, Some, None, Option, Ok, Err, Result}
use Rattle.lexis.specs.Lang.{Got}
use Rattle.model.specs.declared.changes.Change.{Change}
use Rattle.model.specs.Ranges.{Range}
use Rattle.model.specs.Changes.{range_of}
use Rattle.changes.specs.Lines.{line, Writable, Spells}

-- the numbers of a range are those that a line has room for
pub record Fitting (r : Range) : Type 0 where
  pub start : r.start ≤ 2 ^ 40
  pub length : r.length ≤ 2 ^ 40
  pub leaf : r.label.leaf ≤ 0x3f
  pub device : r.label.device ≤ 0xffff
  pub offset : r.label.offset ≤ 2 ^ 40

-- a line of the right shape
abbrev pub Shaped : List ℕ → Change → Type 0
Shaped w c = (w ≡ line c) × Fitting (range_of c)

-- a line that may stand in a list
abbrev pub Lined : List ℕ → Change → Type 0
Lined w c = (w ≡ line c) × Writable c

-- no line that may stand in a list is at the front of x
abbrev pub NoLine : List ℕ → Type 0
NoLine x = (c : Change) (w z : List ℕ) → x ≡ w ++ z → Lined w c → ⊥

-- the bytes are the text of no list
abbrev pub NoList : List ℕ → Type 0
NoList bytes = (cs : List Change) → Spells bytes cs → ⊥

-- the bytes are the text of a list of n changes
abbrev pub Counted : List ℕ → ℕ → Type 0
Counted bytes n = (cs : List Change) × Spells bytes cs × (len cs ≡ n)

-- where the bytes are the text of a list that has room, it stands at the front of a table that was `old` before
abbrev pub Stored : List ℕ → List Change → List Change → Type 0
Stored bytes old new = (cs : List Change) → Spells bytes cs → len cs ≤ len old → new ≡ cs ++ drop (len cs) old

-- one turn over the lines of x leaves y: it gives the line at the front, or once that none stands there, or nothing at the end
abbrev pub Turned : {E : Type 0} → List ℕ → Option (Result Change E) → List ℕ → Type 0
Turned x None y = (x ≡ []) × (y ≡ [])
Turned x (Some (Ok c)) y = Got Lined x c y
Turned x (Some (Err e)) y = (x ≢ []) × NoLine x × (y ≡ [])
