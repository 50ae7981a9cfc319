-- The search as a relation, in the words of its rule.
use Rattle.std.specs.Prelude.{◌≡◌, ℕ, ◌+◌, ◌-◌, ◌<◌, ◌≤◌, Bool, true, false, ◌||◌, List, [], ◌∷◌, Some, None, Option}
use Rattle.model.specs.declared.kinds.Kind.{Kind}
use Rattle.model.specs.declared.places.Place.{Place}
use Rattle.tree.specs.declared.regions.Body.TheVariants.{Container, Leaf, Alias}
use Rattle.tree.specs.declared.regions.Region.{Region}
use Rattle.tree.specs.declared.regions.Attachment.{Attachment}
use Rattle.tree.specs.Model.{Model, region_at, subregions}
use Rattle.tree.specs.Search.{leaf_place}

-- g is the region of number r, it is switched on, and a lies in it
pub record Open (t : Model) (r a : ℕ) (g : Region) : Type 0 where
  pub defined : region_at t r ≡ Some g
  pub on : g.on ≡ true
  pub inside : a < g.size

-- `Finds t r a m o`: the search for address a in region r of the tree t, with the mark m, ends with o.
-- `Tries t cs a m o`: the same over the subregions cs of one parent, tried in turn.
mutual
  pub data Finds (t : Model) : ℕ → ℕ → Bool → Option Place → Type 0 where
    undefined_region : {r a : ℕ} {m : Bool} → region_at t r ≡ None → Finds t r a m None
    switched_off : {r a : ℕ} {m : Bool} (g : Region) → region_at t r ≡ Some g → g.on ≡ false → Finds t r a m None
    beyond : {r a : ℕ} {m : Bool} (g : Region) → region_at t r ≡ Some g → g.size ≤ a → Finds t r a m None
    leaf : {r a : ℕ} {m : Bool} (g : Region) (d : ℕ) (k : Kind) → Open t r a g → g.body ≡ Leaf d k → Finds t r a m (Some (leaf_place r d k a (m || g.protected)))
    alias : {r a : ℕ} {m : Bool} {o : Option Place} (g : Region) (s f : ℕ) → Open t r a g → g.body ≡ Alias s f → Finds t s (a + f) (m || g.protected) o → Finds t r a m o
    container : {r a : ℕ} {m : Bool} {o : Option Place} (g : Region) → Open t r a g → g.body ≡ Container → Tries t (subregions t r) a (m || g.protected) o → Finds t r a m o

  pub data Tries (t : Model) : List Attachment → ℕ → Bool → Option Place → Type 0 where
    exhausted : {a : ℕ} {m : Bool} → Tries t [] a m None
    before : {c : Attachment} {cs : List Attachment} {a : ℕ} {m : Bool} {o : Option Place} → a < c.offset → Tries t cs a m o → Tries t (c ∷ cs) a m o
    found : {c : Attachment} {cs : List Attachment} {a : ℕ} {m : Bool} {p : Place} → c.offset ≤ a → Finds t c.child (a - c.offset) m (Some p) → Tries t (c ∷ cs) a m (Some p)
    missed : {c : Attachment} {cs : List Attachment} {a : ℕ} {m : Bool} {o : Option Place} → c.offset ≤ a → Finds t c.child (a - c.offset) m None → Tries t cs a m o → Tries t (c ∷ cs) a m o
