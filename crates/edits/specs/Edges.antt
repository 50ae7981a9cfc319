-- One tree's edges and another's.
use Rattle.std.specs.Prelude.{◌≡◌, ℕ, ◌≤◌, ◌⊎◌}
use Rattle.tree.specs.Model.{Model}
use Rattle.tree.specs.Paths.{Edge, Path}

-- no path has over 8 edges
abbrev pub Short : Model → Type 0
Short t = (r s n : ℕ) → Path t r n s → n ≤ 8

-- the later tree has the edges of t, and no other but one from p to q
pub record OneMore (t later : Model) (p q : ℕ) : Type 0 where
  pub old : (r s : ℕ) → Edge t r s → Edge later r s
  pub new : (r s : ℕ) → Edge later r s → Edge t r s ⊎ ((r ≡ p) × (s ≡ q))

-- but for one edge from p, no path of the tree has over 8 edges
pub record OneNew (later : Model) (p : ℕ) : Type 0 where
  pub before : Model
  pub to : ℕ
  pub short : Short before
  pub one : OneMore before later p to
