-- Maps laid over one another.
use Rattle.std.specs.Prelude.{◌≡◌, ℕ, suc, ◌+◌, ◌-◌, ◌^◌, ◌≤◌, min, Bool, true, false, cond, ◌||◌, List, [], ◌∷◌, map, Some, Option, nat_lt}
use Rattle.interval.specs.Stretches.{at, rising}
use Rattle.sweep.specs.Maps.{stretches}
use Rattle.model.specs.declared.places.Place.{Place}
use Rattle.model.specs.Places.{moved, same_place}
use Rattle.model.specs.Ranges.{Range}
use Rattle.tree.specs.declared.regions.Attachment.{Attachment}
use Rattle.tree.specs.declared.regions.Body.TheVariants.{Container}
use Rattle.tree.specs.declared.regions.Region.{Region}
use Rattle.tree.specs.Model.{Model, region_at, subregions}
use Rattle.tree.specs.Search.{or_else, look}
use Rattle.flat.specs.Maps.{map_of}
use Rattle.flat.specs.Ranges.{settled}

-- the first place found: the upper one, else the lower one
abbrev pub over : (ℕ → Option Place) → (ℕ → Option Place) → ℕ → Option Place
over upper lower a = or_else (upper a) (lower a)

-- the map of what is shown below 2^40
unfoldable pub chart : (ℕ → Option Place) → List Range
chart shows = stretches moved same_place shows 0 (2 ^ 40)

-- one map laid over another
abbrev pub overlay : List Range → List Range → List Range
overlay upper lower = chart (over (at moved upper) (at moved lower))

-- maps laid over one another, the first on top
abbrev pub overlays : List (List Range) → List Range
overlays [] = []
overlays (xs ∷ maps) = overlay xs (overlays maps)

-- what laying maps over one another keeps to
pub record OverlayLaws : Type 0 where
  pub associative : (xs ys zs : List Range) → overlay (overlay xs ys) zs ≡ overlay xs (overlay ys zs)
  pub empty_upper : (xs : List Range) → rising 0 xs ≡ true → settled xs ≡ true → overlay [] xs ≡ xs
  pub empty_lower : (xs : List Range) → rising 0 xs ≡ true → settled xs ≡ true → overlay xs [] ≡ xs
  pub maps : (f g : ℕ → Option Place) → overlay (chart f) (chart g) ≡ chart (over f g)

-- the ranges `by` addresses further up
abbrev pub shifted : ℕ → List Range → List Range
shifted by [] = []
shifted by (x ∷ xs) = record { start = by + x.start; length = x.length; label = x.label } ∷ shifted by xs

-- what the ranges hold below `size`
abbrev pub cropped : ℕ → List Range → List Range
cropped size [] = []
cropped size (x ∷ xs) = cond (nat_lt x.start size) (record { start = x.start; length = min x.length (size - x.start); label = x.label } ∷ cropped size xs) (cropped size xs)

-- the map of what a search with the mark m, through at most n regions, finds in the region r
abbrev pub region_map : ℕ → Model → ℕ → Bool → List Range
region_map n t r m = chart (λ a. look n t r a m)

-- a subregion's map as its parent shows it: at its offset, and cut off at the parent's size
abbrev pub layer : ℕ → Model → ℕ → Bool → Attachment → List Range
layer n t size m c = cropped size (shifted c.offset (region_map n t c.child m))

-- The map of a tree is that of its root. The map of a region is that of its own addresses, and the map of a container
-- that is on is made of the maps of its subregions, laid over one another in search order.
pub record Layered (t : Model) : Type 0 where
  pub whole : map_of t ≡ region_map 9 t 0 false
  pub own : (n r : ℕ) (m : Bool) (g : Region) → region_at t r ≡ Some g → g.size ≤ 2 ^ 40 → region_map n t r m ≡ stretches moved same_place (λ a. look n t r a m) 0 g.size
  pub containers : (n r : ℕ) (m : Bool) (g : Region) → region_at t r ≡ Some g → g.on ≡ true → g.body ≡ Container
      → region_map (suc n) t r m ≡ overlays (map (layer n t g.size (m || g.protected)) (subregions t r))
