use Rattle.std.proofs.Common.{ap, ◌∙◌}
use Rattle.tree.specs.Bounds.{bounded_attachments}
use Rattle.tree.specs.Listed.{listed}
use Rattle.tree.specs.Model.{model_of}
use Rattle.edits.specs.Edited.{with_order}
use Rattle.edits.proofs.Limits.{low_from, from_low}
use Rattle.edits.proofs.Orders.{room_without, low_inserted, on_ok}
use Rattle.edits.proofs.tables.with_child.Goals as goal

pub invariant_of-table-clause-offsets : goal.invariant_of-table-clause-offsets
invariant_of-table-clause-offsets c =
    let cs = listed c.args.table.order in
    let low = low_from cs c.args.table.offsets in
    let is = on_ok c.insert.result (c.insert.ensures.room.1 (room_without c.args.new cs c.requires low c.args.table.order.single)) c.insert.ensures.ok in
    ap bounded_attachments is ∙ from_low _ (low_inserted c.args.new cs c.requires low)

pub returns : goal.returns
returns c =
    let cs = listed c.args.table.order in
    let low = low_from cs c.args.table.offsets in
    let is = on_ok c.insert.result (c.insert.ensures.room.1 (room_without c.args.new cs c.requires low c.args.table.order.single)) c.insert.ensures.ok in
    ap (with_order (model_of c.args.table)) is
