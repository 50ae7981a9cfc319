-- The search as a function.
use Rattle.std.specs.Prelude.{ℕ, zero, suc, ◌+◌, ◌-◌, Bool, true, false, cond, not, ◌&&◌, ◌||◌, List, [], ◌∷◌, Some, None, Option, nat_le, nat_lt}
use Rattle.model.specs.declared.kinds.Kind.{Kind}
use Rattle.model.specs.declared.kinds.Kind.TheVariants.{Ram, Rom, Reg}
use Rattle.model.specs.declared.places.Place.{Place}
use Rattle.tree.specs.declared.regions.Body.{Body}
use Rattle.tree.specs.declared.regions.Body.TheVariants.{Container, Leaf, Alias}
use Rattle.tree.specs.declared.regions.Region.{Region}
use Rattle.tree.specs.declared.regions.Attachment.{Attachment}
use Rattle.tree.specs.Model.{Model, region_at, subregions}

abbrev pub is_rom : Kind → Bool
is_rom Ram = false
is_rom Rom = true
is_rom Reg = false

-- offset a of the leaf r, which shows device d of kind k; m is the protect mark
abbrev pub leaf_place : ℕ → ℕ → Kind → ℕ → Bool → Place
leaf_place r d k a m = record { leaf = r; device = d; offset = a; kind = k; writes = not (m || is_rom k) }

-- a search in a region, for an address and with a mark
abbrev pub Searcher : Type 0
Searcher = ℕ → ℕ → Bool → Option Place

abbrev pub or_else : Option Place → Option Place → Option Place
or_else (Some p) o = Some p
or_else None o = o

-- the first place that `down` finds among the subregions cs
abbrev pub first_of : Searcher → List Attachment → ℕ → Bool → Option Place
first_of down [] a m = None
first_of down (c ∷ cs) a m = cond (nat_le c.offset a) (or_else (down c.child (a - c.offset) m) (first_of down cs a m)) (first_of down cs a m)

abbrev pub in_body : Searcher → Model → Body → Searcher
in_body down t Container r a m = first_of down (subregions t r) a m
in_body down t (Leaf d k) r a m = Some (leaf_place r d k a m)
in_body down t (Alias s f) r a m = down s (a + f) m

abbrev pub in_region : Searcher → Model → Option Region → Searcher
in_region down t None r a m = None
in_region down t (Some g) r a m = cond (g.on && nat_lt a g.size) (in_body down t g.body r a (m || g.protected)) None

-- the search that goes through at most n regions, one below the other
abbrev pub look : ℕ → Model → Searcher
look zero t r a m = None
look (suc n) t r a m = in_region (look n t) t (region_at t r) r a m

-- the place of a guest address, if it has one; no path has more than 8 edges
unfoldable pub search : Model → ℕ → Option Place
search t a = look 9 t 0 a false

abbrev pub size_of : Option Region → ℕ
size_of None = 0
size_of (Some g) = g.size

-- the guest addresses are those below the size of the root
abbrev pub root_size : Model → ℕ
root_size t = size_of (region_at t 0)
