-- The laws of flat maps, by what stands at each address.
use Rattle.std.specs.Prelude.{◌≡◌, ℕ, ◌+◌, ◌<◌, ◌≤◌, true, false, List, length, Some, Ok, Err, Option, Result}
use mathlib.Core.List.{Memᴰ}
use Rattle.interval.specs.Laws.{Maximal}
use Rattle.interval.specs.Stretches.{at}
use Rattle.model.specs.declared.faults.Fault.{Fault}
use Rattle.model.specs.declared.faults.Fault.TheVariants.{MapFull}
use Rattle.model.specs.declared.places.Place.{Place}
use Rattle.model.specs.Places.{moved, same_place}
use Rattle.model.specs.Ranges.{Range}
use Rattle.tree.specs.declared.regions.Body.TheVariants.{Leaf}
use Rattle.tree.specs.declared.regions.Region.{Region}
use Rattle.tree.specs.Finds.{Finds}
use Rattle.tree.specs.Model.{Model, region_at}
use Rattle.tree.specs.Search.{is_rom}
use Rattle.flat.specs.declared.flat_map.FlatMap.{FlatMap}
use Rattle.flat.specs.Maps.{ranges_of}

-- the ranges rise without overlap, none runs on into the next, and they give each address what `shows` says
abbrev pub IsMap : (ℕ → Option Place) → List Range → Type 0
IsMap = Maximal moved same_place

-- so it is with these ranges, and with no others
pub record OnlyMap (shows : ℕ → Option Place) (xs : List Range) : Type 0 where
  pub maximal : IsMap shows xs
  pub only : (ys : List Range) → IsMap shows ys → ys ≡ xs

-- a map that is made has these ranges; it is refused only where every such list has over 256 of them
abbrev pub Flattened : (ℕ → Option Place) → Result FlatMap Fault → Type 0
Flattened shows (Ok m) = OnlyMap shows (ranges_of m)
Flattened shows (Err f) = (f ≡ MapFull) × ((ys : List Range) → IsMap shows ys → 256 < length ys)

-- `size` bytes from the place on are bytes of its leaf: a leaf of the tree, with the place's device and kind; no write to rom is let through
pub record Lies (t : Model) (p : Place) (size : ℕ) : Type 0 where
  pub region : Region
  pub defined : region_at t p.leaf ≡ Some region
  pub body : region.body ≡ Leaf p.device p.kind
  pub within : p.offset + size ≤ region.size
  pub fixed : is_rom p.kind ≡ true → p.writes ≡ false

-- every range lies in its leaf
abbrev pub AllLie : Model → List Range → Type 0
AllLie t xs = (x : Range) → Memᴰ x xs → Lies t x.label x.length

-- by the rule of the search, a search from the root for an address ends with what the ranges give it, and with nothing else
abbrev pub RuledBy : Model → List Range → Type 0
RuledBy t xs = (a : ℕ) (o : Option Place) → (Finds t 0 a false o → at moved xs a ≡ o) × (at moved xs a ≡ o → Finds t 0 a false o)
