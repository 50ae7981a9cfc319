-- Paths along edges: from parent to child and from alias to target, on or off, attached or not.
use Rattle.std.specs.Prelude.{◌≡◌, ℕ, zero, suc, ◌≤◌, ◌⊎◌, List, [], ◌∷◌, Some}
use Rattle.tree.specs.declared.regions.Body.TheVariants.{Alias}
use Rattle.tree.specs.declared.regions.Region.{Region}
use Rattle.tree.specs.declared.regions.Attachment.{Attachment}
use Rattle.tree.specs.Model.{Model, region_at}

-- one of the attachments has parent r and child s
abbrev pub Holds : ℕ → ℕ → List Attachment → Type 0
Holds r s [] = ⊥
Holds r s (c ∷ cs) = ((c.parent ≡ r) × (c.child ≡ s)) ⊎ Holds r s cs

-- an edge leads from r to s
pub data Edge (t : Model) : ℕ → ℕ → Type 0 where
  holds : {r s : ℕ} → Holds r s t.attachments → Edge t r s
  shows : {r s : ℕ} (g : Region) (f : ℕ) → region_at t r ≡ Some g → g.body ≡ Alias s f → Edge t r s

-- a path of n edges leads from r to s
pub data Path (t : Model) : ℕ → ℕ → ℕ → Type 0 where
  stay : {r : ℕ} → Path t r zero r
  go : {r q s n : ℕ} → Edge t r q → Path t q n s → Path t r (suc n) s

-- some path comes back to its start
abbrev pub ComesBack : Model → Type 0
ComesBack t = (r n : ℕ) × Path t r (suc n) r

-- some path has over 8 edges
abbrev pub TooLong : Model → Type 0
TooLong t = (r s n : ℕ) × (9 ≤ n) × Path t r n s

abbrev pub Lawful : Model → Type 0
Lawful t = (ComesBack t → ⊥) × (TooLong t → ⊥)
