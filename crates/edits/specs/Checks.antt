-- What the checks of an edit answer.
use Rattle.std.specs.Prelude.{◌≡◌, ℕ, ◌<◌, Bool, true, false, cond, List, Some, None, Ok, Err, Result}
use Rattle.model.specs.declared.faults.Fault.{Fault}
use Rattle.model.specs.declared.faults.Fault.TheVariants.{NoRegion, Unattached}
use Rattle.tree.specs.declared.regions.Attachment.{Attachment}
use Rattle.tree.specs.declared.regions.Body.TheVariants.{Alias}
use Rattle.tree.specs.Order.{attachment_of, has_child}
use Rattle.tree.specs.declared.table.Table.{Table}
use Rattle.tree.specs.Model.{Model, model_of, region_at, fresh}
use Rattle.edits.specs.declared.checks.Known.{Known}
use Rattle.edits.specs.declared.edit.Edit.{Edit}
use Rattle.edits.specs.declared.edit.Backing.{Backing}
use Rattle.edits.specs.Edited.{edited}
use Rattle.model.specs.Rows.{Row, first_applying}
use Rattle.edits.specs.Rows.{no_region, child_rows, new_rows, alias_rows, attach_rows, edit_rows}

-- the fault f if the row applies, and else x
abbrev pub checked : {X : Type 0} → Bool → Fault → X → Result X Fault
checked b f x = cond b (Err f) (Ok x)

-- the first of the rows rs that applies, or, where none does, a value that P holds of
abbrev pub Answers : {X : Type 0} → List Row → (X → Type 0) → Result X Fault → Type 0
Answers rs P (Ok x) = (first_applying rs ≡ None) × P x
Answers rs P (Err f) = first_applying rs ≡ Some f

-- the region of number n, or its refusal
abbrev pub Found : Model → ℕ → Result Known Fault → Type 0
Found t n (Ok k) = (n < 64) × (region_at t n ≡ Some k.region) × (k.number ≡ n)
Found t n (Err f) = (no_region t n ≡ true) × (f ≡ NoRegion n)

-- the same of a region that is not the root
abbrev pub Child : Model → ℕ → Result Known Fault → Type 0
Child t n = Answers (child_rows t n) (λ k. (region_at t n ≡ Some k.region) × (k.number ≡ n))

-- the number n of a new region of s bytes, or its refusal
abbrev pub New : Model → ℕ → ℕ → Result ℕ Fault → Type 0
New t n s = Answers (new_rows t n s) (λ i. i ≡ n)

-- the new alias n, or its refusal
abbrev pub NewAlias : Model → (n s r f : ℕ) → Result Known Fault → Type 0
NewAlias t n s r f = Answers (alias_rows t n s r f) (λ k. (k.number ≡ n) × (k.region ≡ fresh (Alias r f) s))

-- the new attachment a, or its refusal
abbrev pub NewAttachment : Model → Attachment → Result Attachment Fault → Type 0
NewAttachment t a = Answers (attach_rows t a.child a.parent a.offset) (λ b. b ≡ a)

-- the attachment of region n among cs, or its refusal
abbrev pub Attached : List Attachment → ℕ → Result Attachment Fault → Type 0
Attached cs n (Ok c) = (has_child n cs ≡ true) × (attachment_of n cs ≡ Some c)
Attached cs n (Err f) = (has_child n cs ≡ false) × (f ≡ Unattached)

-- the table is the tree t
abbrev pub Is : Model → Table → Type 0
Is t table = model_of table ≡ t

-- the table that an edit makes, or its refusal
abbrev pub Changed : Backing → Model → Edit → Result Table Fault → Type 0
Changed b t e = Answers (edit_rows b t e) (Is (edited b t e))
