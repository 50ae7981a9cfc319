-- A search order as a list.
use Rattle.std.specs.Prelude.{List, take}
use Rattle.tree.specs.declared.regions.Attachment.{Attachment}
use Rattle.tree.specs.declared.order.SearchOrder.{SearchOrder}

-- the attachments, in their order
abbrev pub listed : SearchOrder → List Attachment
listed o = take o.count o.entries
