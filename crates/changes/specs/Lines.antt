-- The lines of a change list.
use Rattle.std.specs.Prelude.{◌≡◌, ℕ, ◌+◌, ◌^◌, ◌<◌, ◌≤◌, false, List, [], ◌∷◌, codes}
use Rattle.std.specs.List.{flat_map, AllByRecursion}
use Rattle.lexis.specs.Numeral.{numeral}
use Rattle.model.specs.declared.kinds.Kind.TheVariants.{Rom}
use Rattle.model.specs.declared.changes.Change.{Change}
use Rattle.model.specs.Ranges.{Range}
use Rattle.model.specs.declared.changes.Action.{Action}
use Rattle.model.specs.Changes.{action_of, range_of}
use Rattle.changes.specs.Words.{action_text, kind_text, writes_text}

-- hexadecimal, lower case, without leading zeros
abbrev pub hex : ℕ → List ℕ
hex n = numeral 16 n

-- the pieces of a line, in turn
abbrev pub pieces : Action → Range → List (List ℕ)
pieces a r =
    codes "(" ∷ action_text a
    ∷ codes " (at " ∷ hex r.start
    ∷ codes ") (length " ∷ hex r.length
    ∷ codes ") (leaf " ∷ hex r.label.leaf
    ∷ codes " (device " ∷ hex r.label.device
    ∷ codes ") (offset " ∷ hex r.label.offset
    ∷ codes ")) (kind " ∷ kind_text r.label.kind
    ∷ codes ") (writes " ∷ writes_text r.label.writes
    ∷ codes "))\n" ∷ []

-- the line of a change, which ends with a line feed
abbrev pub line : Change → List ℕ
line c = flat_map (λ w. w) (pieces (action_of c) (range_of c))

-- the text of a change list: its lines, one after another
abbrev pub text_of : List Change → List ℕ
text_of cs = flat_map line cs

-- what a change line may say: there is an address, range and offsets end at 2^40 at most, the leaf is 1 to 3f,
-- the device is at most ffff, and fixed content takes no writes
pub record Writable (c : Change) : Type 0 where
  pub some : 0 < (range_of c).length
  pub ends : (range_of c).start + (range_of c).length ≤ 2 ^ 40
  pub within : (range_of c).label.offset + (range_of c).length ≤ 2 ^ 40
  pub leaf_low : 1 ≤ (range_of c).label.leaf
  pub leaf_high : (range_of c).label.leaf ≤ 0x3f
  pub device : (range_of c).label.device ≤ 0xffff
  pub fixed : (range_of c).label.kind ≡ Rom → (range_of c).label.writes ≡ false

-- the bytes are the text of the list, and each change may be written
abbrev pub Spells : List ℕ → List Change → Type 0
Spells bytes cs = (bytes ≡ text_of cs) × AllByRecursion Writable cs
