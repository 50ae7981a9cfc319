-- What reading and writing a change list answer, and what they leave behind.
use Rattle.std.specs.Prelude.{◌≡◌, ℕ, ◌≤◌, List, ◌++◌, length, take, drop, Some, None, Option}
use Rattle.std.specs.List.{AllByRecursion}
use Rattle.model.specs.declared.changes.Change.{Change}
use Rattle.changes.specs.Lines.{text_of, Writable, Spells}

-- a table that was `old` now begins with the n items xs, and goes on as it was
pub record Holds {A : Type 0} (xs old new : List A) (n : ℕ) : Type 0 where
  pub count : n ≡ length xs
  pub table : new ≡ xs ++ drop n old

-- each change may be written, and the text has room
pub record Fits (cs : List Change) (room : ℕ) : Type 0 where
  pub each : AllByRecursion Writable cs
  pub short : length (text_of cs) ≤ room

-- the bytes are the text of the list cs and of no other, and cs has room
pub record Means (bytes : List ℕ) (cs : List Change) (room : ℕ) : Type 0 where
  pub spelt : Spells bytes cs
  pub only : (ds : List Change) → Spells bytes ds → ds ≡ cs
  pub short : length cs ≤ room

-- cs is written at the front of a buffer, just if it fits
abbrev pub Written : List Change → List ℕ → List ℕ → Option ℕ → Type 0
Written cs old new (Some n) = Fits cs (length old) × Holds (text_of cs) old new n
Written cs old new None = (Fits cs (length old) → ⊥) × (new ≡ old)

-- the bytes are read into the front of a table of records, just if they mean a list that fits
abbrev pub Read : List ℕ → List Change → List Change → Option ℕ → Type 0
Read bytes old new (Some n) = (cs : List Change) × Means bytes cs (length old) × Holds cs old new n
Read bytes old new None = ((cs : List Change) → Spells bytes cs → length cs ≤ length old → ⊥) × (new ≡ old)

-- cs is written at the front of a buffer, and stands at the front of the records too, just if it fits into both
abbrev pub Back : List Change → List ℕ → List ℕ → List Change → List Change → Option ℕ → Type 0
Back cs buffer buffer' records records' (Some n) =
    Fits cs (length buffer) × (length cs ≤ length records) × Holds (text_of cs) buffer buffer' (length (text_of cs)) × Holds cs records records' n
Back cs buffer buffer' records records' None =
    (Fits cs (length buffer) → length cs ≤ length records → ⊥) × (buffer' ≡ buffer) × (records' ≡ records)

-- a change list written as lines reads back as itself, and no other bytes are read as one
pub record RoundTrip : Type 0 where
  -- what a writing put at the front of a buffer, a reading with room for it takes for the same list
  pub back : (cs : List Change) (buffer buffer' : List ℕ) (n : ℕ) (records records' : List Change) (r : Option ℕ)
      → Written cs buffer buffer' (Some n) → Read (take n buffer') records records' r → length cs ≤ length records
      → (r ≡ Some (length cs)) × (records' ≡ cs ++ drop (length cs) records)
  -- bytes that are read are the text of what they are read as, which may be written
  pub no_other : (bytes : List ℕ) (records records' : List Change) (n : ℕ) → Read bytes records records' (Some n) → Spells bytes (take n records')
  -- two lists that may be written have one text only if they are one list
  pub apart : (cs ds : List Change) → AllByRecursion Writable cs → AllByRecursion Writable ds → text_of cs ≡ text_of ds → cs ≡ ds
