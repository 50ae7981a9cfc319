-- What an edit promises of paths and of the search order, in the words of the rules.
use Rattle.std.specs.Prelude.{◌≡◌, ℕ, List, ◌∷◌, ◌++◌, ◌≤ℤ◌, ◌<ℤ◌, Some, Ok, Err, Result}
use Rattle.std.specs.List.{AllByRecursion}
use Rattle.model.specs.declared.faults.Fault.{Fault}
use Rattle.model.specs.declared.faults.Fault.TheVariants.{Cycle, TooDeep}
use Rattle.tree.specs.declared.regions.Attachment.{Attachment}
use Rattle.tree.specs.Model.{Model}
use Rattle.tree.specs.Paths.{ComesBack, TooLong, Lawful}
use Rattle.edits.specs.declared.edit.Edit.{Edit}
use Rattle.edits.specs.declared.edit.Edit.TheVariants.{Container, Leaf, Alias, Attach, Detach, Move, Switch, Protect, Remove}
use Rattle.edits.specs.declared.edit.Backing.{Backing}
use Rattle.tree.specs.Order.{attachment_of, without_child}
use Rattle.edits.specs.Edited.{edited}

-- An edit is refused for a path that comes back just if there would be one, then for one that is too
-- long just if there would be one, and an accepted edit makes neither.
pub record PathsTold (b : Backing) (t : Model) (e : Edit) (r : Result (Unit {0}) Fault) : Type 0 where
  pub cycle : r ≡ Err Cycle → ComesBack (edited b t e)
  pub deep : r ≡ Err TooDeep → TooLong (edited b t e) × (ComesBack (edited b t e) → ⊥)
  pub lawful : r ≡ Ok tt → Lawful (edited b t e)

-- The attachment a stands behind all of higher priority and before all others, and these keep their order.
pub record LeadsEquals (a : Attachment) (others now : List Attachment) : Type 0 where
  pub higher : List Attachment
  pub rest : List Attachment
  pub were : others ≡ higher ++ rest
  pub are : now ≡ higher ++ a ∷ rest
  pub behind : AllByRecursion (λ (c : Attachment). a.priority <ℤ c.priority) higher
  pub before : AllByRecursion (λ (c : Attachment). c.priority ≤ℤ a.priority) rest

-- the region n lies at another offset, with its parent and its priority as they were
pub record Moved (n o : ℕ) (was now : List Attachment) : Type 0 where
  pub from : Attachment
  pub found : attachment_of n was ≡ Some from
  pub leads : LeadsEquals (record { child = n; parent = from.parent; offset = o; priority = from.priority }) (without_child n was) now

abbrev pub Reordered : Edit → List Attachment → List Attachment → Type 0
Reordered (Container n s) was now = now ≡ was
Reordered (Leaf n s d) was now = now ≡ was
Reordered (Alias n s r f) was now = now ≡ was
Reordered (Attach n p o i) was now = LeadsEquals (record { child = n; parent = p; offset = o; priority = i }) was now
Reordered (Detach n) was now = now ≡ without_child n was
Reordered (Move n o) was now = Moved n o was now
Reordered (Switch n v) was now = now ≡ was
Reordered (Protect n v) was now = now ≡ was
Reordered (Remove n) was now = now ≡ was

-- the search order after an edit, which a refusal leaves as it was
abbrev pub OrderAfter : Edit → Result (Unit {0}) Fault → List Attachment → List Attachment → Type 0
OrderAfter e (Ok x) was now = Reordered e was now
OrderAfter e (Err f) was now = now ≡ was
