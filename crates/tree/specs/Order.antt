-- The search order: higher priority first, among equals the later attached or moved first.
use Rattle.std.specs.Prelude.{ℕ, Bool, true, cond, not, ◌&&◌, List, [], ◌∷◌, filter, find, Option, ◌==◌, int_lt}
use Rattle.std.specs.List.{list_any}
use Rattle.tree.specs.declared.regions.Attachment.{Attachment}

-- region n is among the children
abbrev pub has_child : ℕ → List Attachment → Bool
has_child n cs = list_any (λ c. c.child == n) cs

-- something is attached to region n
abbrev pub has_children : List Attachment → ℕ → Bool
has_children cs n = list_any (λ c. c.parent == n) cs

-- the attachment of region n, if it has one
abbrev pub attachment_of : ℕ → List Attachment → Option Attachment
attachment_of n cs = find (λ c. c.child == n) cs

-- all attachments but that of region n
abbrev pub without_child : ℕ → List Attachment → List Attachment
without_child n cs = filter (λ c. not (c.child == n)) cs

-- no region is attached twice
abbrev pub once : List Attachment → Bool
once [] = true
once (c ∷ cs) = not (has_child c.child cs) && once cs

-- no priority is above one that stands before it
abbrev pub sorted_from : Attachment → List Attachment → Bool
sorted_from c [] = true
sorted_from c (d ∷ ds) = not (int_lt c.priority d.priority) && sorted_from d ds

abbrev pub sorted : List Attachment → Bool
sorted [] = true
sorted (c ∷ cs) = sorted_from c cs

-- the new attachment before all that have no higher priority
abbrev pub inserted : Attachment → List Attachment → List Attachment
inserted a [] = a ∷ []
inserted a (c ∷ cs) = cond (int_lt a.priority c.priority) (c ∷ inserted a cs) (a ∷ c ∷ cs)
