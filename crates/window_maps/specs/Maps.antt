-- The whole map of each worked window.
use Rattle.std.specs.Prelude.{◌≡◌, ℕ, true, List, [], ◌∷◌, map}
use Rattle.std.specs.List.{AllByRecursion}
use Rattle.model.specs.declared.kinds.Kind.TheVariants.{Ram}
use Rattle.model.specs.Ranges.{Range}
use Rattle.flat.specs.Maps.{map_of}
use Rattle.tree.specs.Model.{Model}
use Rattle.windows.specs.Windows.{windows, w1, w2, w3, w4, w5, w6, w7, w8}

-- `size` addresses from `start` on that show the leaf from `offset` on
abbrev pub range : (start size leaf offset : ℕ) → Range
range a n l o = record { start = a; length = n; label = record { leaf = l; device = l; offset = o; kind = Ram; writes = true } }

abbrev pub window_maps : List (Model × List Range)
window_maps =
    (w1, [])
    ∷ (w2, range 0x2000 0x1000 1 0 ∷ [])
    ∷ (w3, range 0x2000 0x800 1 0 ∷ range 0x2800 0x1000 2 0 ∷ [])
    ∷ (w4, range 0x2000 0x1000 1 0 ∷ range 0x3000 0x800 2 0x800 ∷ [])
    ∷ (w5, range 0x2000 0x1000 1 0 ∷ [])
    ∷ (w6, range 0xf800 0x800 1 0 ∷ [])
    ∷ (w7, range 0x8000 0x400 1 0xc00 ∷ [])
    ∷ (w8, range 0x8000 0x1000 1 0 ∷ [])
    ∷ []

-- the table has all the windows, and the map of each is what is expected
pub record WindowsMap : Type 0 where
  pub all : map (λ w. w.tree) windows ≡ map (λ e. e.0) window_maps
  pub maps : AllByRecursion (λ e. map_of e.0 ≡ e.1) window_maps
