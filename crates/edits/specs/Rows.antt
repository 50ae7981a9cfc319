-- The refusals of the edits. Each edit has its rows in the order of their numbers, and the first that applies decides.
use Rattle.std.specs.Prelude.{ℕ, ◌^◌, Bool, true, false, not, ◌||◌, List, [], ◌∷◌, ◌++◌, is_some, None, Some, Option, ◌==◌, nat_eq, nat_lt}
use Rattle.std.specs.List.{list_any}
use Rattle.model.specs.Rows.{Row, first_applying, unless}
use Rattle.model.specs.declared.faults.Fault.{Fault}
use Rattle.model.specs.declared.faults.Fault.TheVariants.{BadSize, BadOffset, NoRegion, Defined, Root, NoContainer, BadDevice, InUse, Unattached, Cycle, TooDeep}
use Rattle.tree.specs.declared.regions.Body.TheVariants as body
use Rattle.tree.specs.declared.regions.Region.{Region}
use Rattle.tree.specs.Bounds.{bad_size}
use Rattle.tree.specs.Model.{Model, region_at}
use Rattle.tree.specs.Order.{has_child, has_children}
use Rattle.edits.specs.declared.edit.Edit.{Edit}
use Rattle.edits.specs.declared.edit.Edit.TheVariants.{Container, Leaf, Alias, Attach, Detach, Move, Switch, Protect, Remove}
use Rattle.edits.specs.declared.edit.Backing.{Backing}
use Rattle.edits.specs.Edited.{edited}
use Rattle.edits.specs.PathTests.{comes_back, too_long}

abbrev pub bad_offset : ℕ → Bool
bad_offset o = nat_lt (2 ^ 40) o

abbrev pub no_number : ℕ → Bool
no_number n = nat_lt 63 n

abbrev pub defined : Model → ℕ → Bool
defined t n = is_some (region_at t n)

abbrev pub no_region : Model → ℕ → Bool
no_region t n = no_number n || not (defined t n)

abbrev pub is_container : Option Region → Bool
is_container None = false
is_container (Some g) = elim g.body [ body.Container ↦ true | body.Leaf d k ↦ false | body.Alias s f ↦ false ]

-- no such device, or fewer bytes than the leaf has
abbrev pub bad_device : Backing → ℕ → ℕ → Bool
bad_device b d s = nat_lt 65535 d || nat_lt b.length s

abbrev pub attached : Model → ℕ → Bool
attached t n = has_child n t.attachments

abbrev pub shows : ℕ → Option Region → Bool
shows n None = false
shows n (Some g) = elim g.body [ body.Container ↦ false | body.Leaf d k ↦ false | body.Alias s f ↦ nat_eq s n ]

-- some alias has region n as its target
abbrev pub aliased : List (Option Region) → ℕ → Bool
aliased gs n = list_any (shows n) gs

-- the rows of a region that is to be made
abbrev pub new_rows : Model → ℕ → ℕ → List Row
new_rows t n s =
    (bad_size s, BadSize) ∷
    (no_number n, NoRegion n) ∷
    (defined t n, Defined) ∷ []

-- the rows of a region that is to be changed, but may not be the root
abbrev pub child_rows : Model → ℕ → List Row
child_rows t n =
    (no_region t n, NoRegion n) ∷
    ((n == 0), Root) ∷ []

-- the rows of paths, in a tree
abbrev pub path_rows : Model → List Row
path_rows t = (comes_back t, Cycle) ∷ (too_long t, TooDeep) ∷ []

-- the rows of an alias above those of paths
abbrev pub alias_rows : Model → (n s r f : ℕ) → List Row
alias_rows t n s r f =
    (bad_size s, BadSize) ∷
    (bad_offset f, BadOffset) ∷
    (no_number n, NoRegion n) ∷
    (no_region t r, NoRegion r) ∷
    (defined t n, Defined) ∷ []

-- the rows of an attachment above those of paths
abbrev pub attach_rows : Model → (n p o : ℕ) → List Row
attach_rows t n p o =
    (bad_offset o, BadOffset) ∷
    (no_region t n, NoRegion n) ∷
    (no_region t p, NoRegion p) ∷
    ((n == 0), Root) ∷
    (not (is_container (region_at t p)), NoContainer) ∷
    (attached t n, InUse) ∷ []

abbrev pub edit_rows : Backing → Model → Edit → List Row
edit_rows b t (Container n s) = new_rows t n s
edit_rows b t (Leaf n s d) =
    (bad_size s, BadSize) ∷
    (no_number n, NoRegion n) ∷
    (defined t n, Defined) ∷
    (bad_device b d s, BadDevice d) ∷ []
edit_rows b t (Alias n s r f) = alias_rows t n s r f ++ path_rows (edited b t (Alias n s r f))
edit_rows b t (Attach n p o i) = attach_rows t n p o ++ path_rows (edited b t (Attach n p o i))
edit_rows b t (Detach n) =
    (no_region t n, NoRegion n) ∷
    ((n == 0), Root) ∷
    (not (attached t n), Unattached) ∷ []
edit_rows b t (Move n o) =
    (bad_offset o, BadOffset) ∷
    (no_region t n, NoRegion n) ∷
    ((n == 0), Root) ∷
    (not (attached t n), Unattached) ∷ []
edit_rows b t (Switch n v) = child_rows t n
edit_rows b t (Protect n v) = child_rows t n
edit_rows b t (Remove n) =
    (no_region t n, NoRegion n) ∷
    ((n == 0), Root) ∷
    (attached t n || (has_children t.attachments n || aliased t.regions n), InUse) ∷ []

-- the fault that an edit answers, if it is refused
unfoldable pub edit_refusal : Backing → Model → Edit → Option Fault
edit_refusal b t e = first_applying (edit_rows b t e)

-- the tree after an edit: as it was where the edit is refused
abbrev pub edit_result : Backing → Model → Edit → Model
edit_result b t e = unless (edit_refusal b t e) (edited b t e) t
