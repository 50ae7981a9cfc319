-- What each edit makes of a tree, once no row refuses it.
use Rattle.std.specs.Prelude.{ℕ, Bool, List, Some, None, Option, slice_set}
use Rattle.tree.specs.declared.regions.Body.TheVariants as body
use Rattle.tree.specs.declared.regions.Region.{Region}
use Rattle.tree.specs.declared.regions.Attachment.{Attachment}
use Rattle.tree.specs.Model.{Model, region_at, fresh}
use Rattle.tree.specs.Order.{attachment_of, inserted, without_child}
use Rattle.edits.specs.declared.edit.Edit.{Edit}
use Rattle.edits.specs.declared.edit.Edit.TheVariants.{Container, Leaf, Alias, Attach, Detach, Move, Switch, Protect, Remove}
use Rattle.edits.specs.declared.edit.Backing.{Backing}

abbrev pub with_region : Model → ℕ → Option Region → Model
with_region t n g = record { regions = slice_set t.regions n g; attachments = t.attachments }

abbrev pub with_order : Model → List Attachment → Model
with_order t cs = record { regions = t.regions; attachments = cs }

abbrev pub switched : Bool → Option Region → Option Region
switched b None = None
switched b (Some g) = Some (record { body = g.body; size = g.size; on = b; protected = g.protected })

abbrev pub marked : Bool → Option Region → Option Region
marked b None = None
marked b (Some g) = Some (record { body = g.body; size = g.size; on = g.on; protected = b })

-- the attachment again, at another offset and before its equals
abbrev pub again_at : ℕ → Option Attachment → List Attachment → List Attachment
again_at o None cs = cs
again_at o (Some c) cs = inserted (record { child = c.child; parent = c.parent; offset = o; priority = c.priority }) cs

-- a leaf takes the kind that its device has
unfoldable pub edited : Backing → Model → Edit → Model
edited b t (Container n s) = with_region t n (Some (fresh body.Container s))
edited b t (Leaf n s d) = with_region t n (Some (fresh (body.Leaf d b.kind) s))
edited b t (Alias n s r f) = with_region t n (Some (fresh (body.Alias r f) s))
edited b t (Attach n p o i) = with_order t (inserted (record { child = n; parent = p; offset = o; priority = i }) t.attachments)
edited b t (Detach n) = with_order t (without_child n t.attachments)
edited b t (Move n o) = with_order t (again_at o (attachment_of n t.attachments) (without_child n t.attachments))
edited b t (Switch n v) = with_region t n (switched v (region_at t n))
edited b t (Protect n v) = with_region t n (marked v (region_at t n))
edited b t (Remove n) = with_region t n None
