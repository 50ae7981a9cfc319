use Rattle.std.proofs.Common.{◌≡◌, Result, sym, ap, ◌∙◌, subst, w16, SFits, rules}
use Rattle.std.proofs.lemmas.Int.{to_z-of_z}
use Rattle.model.specs.declared.faults.Fault.{Fault}
use Rattle.tree.specs.declared.table.Table.{Table}
use Rattle.tree.specs.Model.{Model}
use Rattle.edits.specs.declared.edit.Edit.{Edit}
use Rattle.edits.specs.declared.edit.Edit.TheVariants.{Attach}
use Rattle.edits.specs.declared.edit.Backing.{Backing}
use Rattle.edits.specs.Checks.{Changed}
use Rattle.edits.proofs.apply.changed.Goals as goal

-- an edit that ignores the device
any_device : (b : Backing) (t : Model) (e f : Edit) (r : Result Table Fault) → f ≡ e → ((b : Backing) → Changed b t e r) → Changed b t f r
any_device b t e f r is h = subst (λ x. Changed b t x r) (sym is) (h b)

pub returns-in-Container : goal.returns-in-Container
returns-in-Container c = any_device _ _ _ _ _ c.in-Container.is c.make_container.ensures

pub returns-in-Alias : goal.returns-in-Alias
returns-in-Alias c = any_device _ _ _ _ _ c.in-Alias.is c.make_alias.ensures

pub returns-in-Attach : goal.returns-in-Attach
returns-in-Attach c =
    let fits : SFits w16 c.in-Attach.priority = search rules in
    let same = ap (Attach c.in-Attach.number c.in-Attach.parent c.in-Attach.offset) (to_z-of_z w16 c.in-Attach.priority fits) in
    any_device _ _ _ _ _ (c.in-Attach.is ∙ sym same) c.attach.ensures

pub returns-in-Detach : goal.returns-in-Detach
returns-in-Detach c = any_device _ _ _ _ _ c.in-Detach.is c.detach.ensures

pub returns-in-Move : goal.returns-in-Move
returns-in-Move c = any_device _ _ _ _ _ c.in-Move.is c.move_region.ensures

pub returns-in-Switch : goal.returns-in-Switch
returns-in-Switch c = any_device _ _ _ _ _ c.in-Switch.is c.switch.ensures

pub returns-in-Protect : goal.returns-in-Protect
returns-in-Protect c = any_device _ _ _ _ _ c.in-Protect.is c.protect.ensures

pub returns-in-Remove : goal.returns-in-Remove
returns-in-Remove c = any_device _ _ _ _ _ c.in-Remove.is c.remove.ensures
