-- Tests for paths that come back or are too long, by walks of at most 9 edges: an edit adds at most
-- one edge, so a path that newly comes back to its start does so within 9.
use Rattle.std.specs.Prelude.{ℕ, zero, suc, Bool, true, false, ◌||◌, List, [], ◌∷◌, ◌++◌, map, Some, None, Decides, Option, ◌==◌}
use Rattle.std.specs.List.{list_any}
use Rattle.std.specs.Option.{option_to_list}
use Rattle.tree.specs.declared.regions.Body.{Body}
use Rattle.tree.specs.declared.regions.Region.{Region}
use Rattle.tree.specs.Model.{Model, region_at, subregions, target_of}
use Rattle.tree.specs.Paths.{ComesBack, TooLong}

abbrev pub targets : Body → List ℕ
targets b = option_to_list (target_of b)

abbrev pub targets_of : Option Region → List ℕ
targets_of None = []
targets_of (Some g) = targets g.body

-- where the edges from r lead
abbrev pub onward : Model → ℕ → List ℕ
onward t r = map (λ c. c.child) (subregions t r) ++ targets_of (region_at t r)

abbrev pub below : ℕ → List ℕ
below zero = []
below (suc n) = n ∷ below n

-- a path of n edges begins at r
unfoldable pub goes_on : Model → ℕ → ℕ → Bool
goes_on t zero r = true
goes_on t (suc n) r = list_any (goes_on t n) (onward t r)

-- a path of 1 to n edges leads from r to s
unfoldable pub leads_to : Model → ℕ → ℕ → ℕ → Bool
leads_to t zero s r = false
leads_to t (suc n) s r = list_any (λ q. (q == s) || leads_to t n s q) (onward t r)

-- from r leads a path of n edges to where `last` is true, or one of fewer, but of one at least, to where
-- `always` is
unfoldable pub reaches : Model → (last always : ℕ → Bool) → ℕ → ℕ → Bool
reaches t last always zero r = last r
reaches t last always (suc n) r = list_any (λ q. always q || reaches t last always n q) (onward t r)

unfoldable pub comes_back : Model → Bool
comes_back t = list_any (λ r. leads_to t 9 r r) (below 64)

unfoldable pub too_long : Model → Bool
too_long t = list_any (goes_on t 9) (below 64)

-- the tests decide what they mean, in the tree t
pub record Decided (t : Model) : Type 0 where
  pub back : Decides (comes_back t) (ComesBack t)
  pub long : Decides (too_long t) (TooLong t)
