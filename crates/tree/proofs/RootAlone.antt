-- The root alone has no edge.
use Rattle.std.proofs.Common.{◌≡◌, ℕ, zero, suc, ◌≤◌, get_or, replicate, Some, None, Option, refl, arith}
use Rattle.tree.specs.declared.regions.Body.TheVariants.{Container, Alias}
use Rattle.tree.specs.declared.regions.Region.{Region}
use Rattle.tree.specs.Model.{region_at, root_alone, fresh}
use Rattle.tree.specs.Paths.{Edge, holds, shows, Path, go}

nones : (n i : ℕ) → get_or {A = Option Region} (replicate n None) i None ≡ None
nones zero i = refl
nones (suc n) zero = refl
nones (suc n) (suc i) = nones n i

no_alias : (size r s f : ℕ) (g : Region) → region_at (root_alone size) r ≡ Some g → g.body ≡ Alias s f → ◌≡◌ {A = ℕ} 0 1
no_alias size zero s f g e is = let root : Some (fresh Container size) ≡ Some g = e in cc
no_alias size (suc r) s f g e is = let none = nones 63 r in cc

no_edge : {size r s : ℕ} → Edge (root_alone size) r s → ◌≡◌ {A = ℕ} 0 1
no_edge (holds h) = absurd h
no_edge {size} {r} {s} (shows g f e is) = no_alias size r s f g e is

pub root_short : (size r s n : ℕ) → Path (root_alone size) r n s → n ≤ 8
root_short size r s zero p = omega arith
root_short size r s (suc n) (go e p) = let z = no_edge e in absurd (omega arith)
