-- Sets of regions.
use Rattle.std.specs.Prelude.{◌≡◌, ℕ, ◌<◌, ◌==◌, Bool, false, List, map, Option, Some, None, slice_index_or}
use Rattle.tree.specs.declared.regions.Attachment.{Attachment}
use Rattle.tree.specs.Model.{under}
use Rattle.edits.specs.declared.marks.Marks.{Marks}

abbrev pub has : Marks → ℕ → Bool
has m k = slice_index_or m.marked k false

-- the set has just the regions at which f is true
abbrev pub IsSetOf : (ℕ → Bool) → Marks → Type 0
IsSetOf f m = (k : ℕ) → k < 64 → has m k ≡ f k

-- the set of the one number that there is, or of none
abbrev pub just : Option ℕ → ℕ → Bool
just None k = false
just (Some n) k = k == n

-- the children of r among the attachments cs
abbrev pub children : ℕ → List Attachment → List ℕ
children r cs = map (λ c. c.child) (under r cs)
