-- The search over a stretch of addresses.
use Rattle.std.specs.Prelude.{◌≡◌, ℕ, ◌+◌, ◌-◌, ◌^◌, ◌<◌, ◌≤◌, Bool, false, List, ◌∷◌, Some, Option}
use Rattle.std.specs.Option.{option_map}
use Rattle.model.specs.declared.places.Place.{Place}
use Rattle.model.specs.Places.{moved}
use Rattle.tree.specs.declared.regions.Body.TheVariants.{Alias}
use Rattle.tree.specs.declared.regions.Region.{Region}
use Rattle.tree.specs.declared.regions.Attachment.{Attachment}
use Rattle.interval.specs.declared.sightings.Sighting.{Sighting}
use Rattle.tree.specs.Model.{Model, region_at, subregions}
use Rattle.tree.specs.Search.{first_of, look, search}
use Rattle.tree.specs.Finds.{Finds}

-- what a sighting says of the address i addresses on: no place, or the place advanced by i
abbrev pub onward : Sighting Place → ℕ → Option Place
onward s i = option_map (λ p. moved p i) s.label

-- `f i` is what is found i addresses on. The sighting s tells it for the addresses of its extent: at most
-- `limit`, at least one if that is not 0, and fewer than `limit` only up to where `Border` holds. The offsets
-- along the extent end by 2^40, so that no advance of the place wraps.
pub record Sees (f : ℕ → Option Place) (Border : ℕ → Type 0) (limit : ℕ) (s : Sighting Place) : Type 0 where
  pub within : s.extent ≤ limit
  pub some : 0 < limit → 0 < s.extent
  pub same : (i : ℕ) → i < s.extent → f i ≡ onward s i
  pub until : s.extent < limit → Border s.extent
  pub fits : (p : Place) → s.label ≡ Some p → p.offset + s.extent ≤ 2 ^ 40

-- `Borders t r a i`: from the address a of the region r, i addresses on, a region begins or ends: r itself,
-- or one that a search for a in r may come to. `BordersUnder t cs a i`: the same for the subregions cs.
mutual
  pub data Borders (t : Model) : ℕ → ℕ → ℕ → Type 0 where
    ends : {r a i : ℕ} (g : Region) → region_at t r ≡ Some g → g.size ≡ a + i → Borders t r a i
    through : {r a i : ℕ} (g : Region) (s f : ℕ) → region_at t r ≡ Some g → g.body ≡ Alias s f → Borders t s (a + f) i → Borders t r a i
    among : {r a i : ℕ} → BordersUnder t (subregions t r) a i → Borders t r a i

  pub data BordersUnder (t : Model) : List Attachment → ℕ → ℕ → Type 0 where
    begins : {c : Attachment} {cs : List Attachment} {a i : ℕ} → c.offset ≡ a + i → BordersUnder t (c ∷ cs) a i
    inside : {c : Attachment} {cs : List Attachment} {a i : ℕ} → c.offset ≤ a → Borders t c.child (a - c.offset) i → BordersUnder t (c ∷ cs) a i
    later : {c : Attachment} {cs : List Attachment} {a i : ℕ} → BordersUnder t cs a i → BordersUnder t (c ∷ cs) a i

-- from the address a on: the search in the region r with the mark m, through at most n regions
abbrev pub SeesIn : ℕ → Model → (r a : ℕ) → Bool → ℕ → Sighting Place → Type 0
SeesIn n t r a m = Sees (λ i. look n t r (a + i) m) (Borders t r a)

-- the same among the subregions cs
abbrev pub SeesUnder : ℕ → Model → List Attachment → ℕ → Bool → ℕ → Sighting Place → Type 0
SeesUnder n t cs a m = Sees (λ i. first_of (look n t) cs (a + i) m) (BordersUnder t cs a)

-- the same for guest addresses
abbrev pub SeesAt : Model → ℕ → ℕ → Sighting Place → Type 0
SeesAt t a = Sees (λ i. search t (a + i)) (Borders t 0 a)

-- by the rule of the search, a search from the root for each address of the sighting ends with what the
-- sighting says, and with nothing else
pub record Ruled (t : Model) (a : ℕ) (s : Sighting Place) : Type 0 where
  pub finds : (i : ℕ) → i < s.extent → Finds t 0 (a + i) false (onward s i)
  pub only : (i : ℕ) (o : Option Place) → i < s.extent → Finds t 0 (a + i) false o → o ≡ onward s i

-- the relation and the function that goes through at least 9 regions are one, in every region
abbrev pub Agrees : Model → Type 0
Agrees t = (n r a : ℕ) (m : Bool) (o : Option Place) → 8 < n → (Finds t r a m o → look n t r a m ≡ o) × (look n t r a m ≡ o → Finds t r a m o)
