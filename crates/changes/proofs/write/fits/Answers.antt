use Rattle.std.proofs.Common.{length, ap, ◌∙◌}
use Rattle.changes.proofs.Texts.{too_long}
use Rattle.changes.proofs.write.fits.Goals as goal

pub returns-then-len-room : goal.returns-then-len-room
returns-then-len-room c = too_long _ _ _ c.loop-change-test.true _ _ _ c.loop-change.invariant (c.len-len.ensures ∙ ap length c.line_of.ensures) c.if-len-room.true
