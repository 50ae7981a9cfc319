-- The table of refusals: number, layer and place of every fault. Where several apply, the lowest number decides.
use Rattle.std.specs.Prelude.{◌≡◌, ℕ, ◌≤◌, cond, nat_le}
use Rattle.model.specs.declared.faults.Layer.{Layer}
use Rattle.model.specs.declared.faults.Layer.TheVariants.{Tree, Map, Access, Script}
use Rattle.model.specs.declared.faults.Fault.{Fault}
use Rattle.model.specs.declared.faults.Fault.TheVariants.{DraftStands, NoDraft, BadSize, BadOffset, NoRegion, Defined, Root, NoContainer, BadDevice, InUse, Unattached, Cycle, TooDeep, MapFull, ListenerFull, ListShort, ListenerInUse, BadLength, NoPlace, NoWrites, NoForm}

pub record Row : Type 0 where
  pub number : ℕ
  pub layer : Layer
  pub place : ℕ

abbrev pub at_row : ℕ → Layer → ℕ → Row
at_row n l p = record { number = n; layer = l; place = p }

abbrev pub row : Fault → Row
row DraftStands = at_row 1 Tree 0
row NoDraft = at_row 2 Tree 0
row BadSize = at_row 3 Tree 0
row BadOffset = at_row 4 Tree 0
row (NoRegion region) = at_row 5 Tree region
row Defined = at_row 6 Tree 0
row Root = at_row 7 Tree 0
row NoContainer = at_row 8 Tree 0
row (BadDevice device) = at_row 9 Tree device
row InUse = at_row 10 Tree 0
row Unattached = at_row 11 Tree 0
row Cycle = at_row 12 Tree 0
row TooDeep = at_row 13 Tree 0
row MapFull = at_row 14 Map 0
row ListenerFull = at_row 15 Map 0
row ListShort = at_row 16 Map 0
row ListenerInUse = at_row 17 Map 0
row (BadLength count) = at_row 18 Access count
row (NoPlace address) = at_row 19 Access address
row (NoWrites address) = at_row 20 Access address
row (NoForm column) = at_row 21 Script column

-- the tree has the numbers up to 13, the map those up to 17, accesses those up to 20
abbrev pub layer_by_number : ℕ → Layer
layer_by_number n = cond (nat_le n 13) Tree (cond (nat_le n 17) Map (cond (nat_le n 20) Access Script))

-- the number is one of 1 to 21, and no other fault has the same number and place
pub record OnlyFault (f : Fault) : Type 0 where
  pub low : 1 ≤ (row f).number
  pub high : (row f).number ≤ 21
  pub only : (g : Fault) → (row g).number ≡ (row f).number → (row g).place ≡ (row f).place → g ≡ f
