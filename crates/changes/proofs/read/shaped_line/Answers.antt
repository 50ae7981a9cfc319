use Rattle.lexis.proofs.Chains.{Past, past_item, past_fails, past_last, past_lost}
use Rattle.changes.specs.Shapes.{Shaped}
use Rattle.changes.proofs.Items.{Tail, made, past_start, hex_free, action_free, kind_free, writes_free}
use Rattle.changes.proofs.read.shaped_line.Goals as goal
use Rattle.changes.proofs.read.shaped_line.Goals.{In_ok-offset}

pub returns-in_err-action : goal.returns-in_err-action
returns-in_err-action c = past_fails (past_start _) c.in_err-action.ensures c.from_residual.ensures.1

pub returns-in_err-start : goal.returns-in_err-start
returns-in_err-start c = past_fails (past_item action_free (past_start _) c.in_ok-action.ensures) c.in_err-start.ensures.moves c.from_residual-in_err-start.ensures.1

pub returns-in_err-length : goal.returns-in_err-length
returns-in_err-length c = past_fails (past_item hex_free (past_item action_free (past_start _) c.in_ok-action.ensures) c.in_ok-start.ensures.moves) c.in_err-length.ensures.moves c.from_residual-in_err-length.ensures.1

pub returns-in_err-leaf : goal.returns-in_err-leaf
returns-in_err-leaf c = past_fails (past_item hex_free (past_item hex_free (past_item action_free (past_start _) c.in_ok-action.ensures) c.in_ok-start.ensures.moves) c.in_ok-length.ensures.moves) (rw c.from.ensures at c.in_err-leaf.ensures.moves) c.from_residual-in_err-leaf.ensures.1

pub returns-in_err-device : goal.returns-in_err-device
returns-in_err-device c = past_fails (past_item hex_free (past_item hex_free (past_item hex_free (past_item action_free (past_start _) c.in_ok-action.ensures) c.in_ok-start.ensures.moves) c.in_ok-length.ensures.moves) (rw c.from.ensures at c.in_ok-leaf.ensures.moves)) (rw c.from-2.ensures at c.in_err-device.ensures.moves) c.from_residual-in_err-device.ensures.1

pub returns-in_err-offset : goal.returns-in_err-offset
returns-in_err-offset c = past_fails (past_item hex_free (past_item hex_free (past_item hex_free (past_item hex_free (past_item action_free (past_start _) c.in_ok-action.ensures) c.in_ok-start.ensures.moves) c.in_ok-length.ensures.moves) (rw c.from.ensures at c.in_ok-leaf.ensures.moves)) (rw c.from-2.ensures at c.in_ok-device.ensures.moves)) c.in_err-offset.ensures.moves c.from_residual-in_err-offset.ensures.1

-- a reader past the numbers
numbered : (c : In_ok-offset) → Past Shaped c.args.reader.now Tail (λ q. made (c.in_ok-action.field-0, (c.in_ok-start.start, (c.in_ok-length.length, (c.in_ok-leaf.leaf, (c.in_ok-device.device, (c.in_ok-offset.offset, q))))))) c.number_after-5.new.reader
numbered c = past_item hex_free (past_item hex_free (past_item hex_free (past_item hex_free (past_item hex_free (past_item action_free (past_start _) c.in_ok-action.ensures) c.in_ok-start.ensures.moves) c.in_ok-length.ensures.moves) (rw c.from.ensures at c.in_ok-leaf.ensures.moves)) (rw c.from-2.ensures at c.in_ok-device.ensures.moves)) c.in_ok-offset.ensures.moves

pub returns-in_err-kind : goal.returns-in_err-kind
returns-in_err-kind c = past_fails (numbered (goal.at.returns-in_err-kind c).In_ok-offset) c.in_err-kind.ensures c.from_residual-in_err-kind.ensures.1

pub returns-in_err-writes : goal.returns-in_err-writes
returns-in_err-writes c = past_fails (past_item kind_free (numbered (goal.at.returns-in_err-writes c).In_ok-offset) c.in_ok-kind.ensures) c.in_err-writes.ensures c.from_residual-in_err-writes.ensures.1

pub returns-in_err-literal : goal.returns-in_err-literal
returns-in_err-literal c = past_lost (past_item writes_free (past_item kind_free (numbered (goal.at.returns-in_err-literal c).In_ok-offset) c.in_ok-kind.ensures) c.in_ok-writes.ensures) c.in_err-literal.ensures c.from_residual-in_err-literal.ensures.1

pub returns : goal.returns
returns c = past_last c.entry.ensures (past_item writes_free (past_item kind_free (numbered (goal.at.returns c).In_ok-offset) c.in_ok-kind.ensures) c.in_ok-writes.ensures) c.in_ok-literal.ensures
