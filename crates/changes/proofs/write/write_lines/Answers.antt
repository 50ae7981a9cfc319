use Rattle.changes.proofs.Texts.{never_out, one_on}
use Rattle.changes.proofs.write.write_lines.Goals as goal

pub returns-in_err-at : goal.returns-in_err-at
returns-in_err-at c =
    absurd (never_out _ _ _ c.loop-change-test.true _ _ _ _ c.requires c.loop-change.auto.buffer c.line_of.ensures c.loop-change.invariant _ c.copy_to.ensures.answer c.in_err-at.was)

pub loop-change-preserved : goal.loop-change-preserved
loop-change-preserved c =
    one_on _ _ _ c.loop-change-test.true _ _ _ _ c.requires c.loop-change.auto.buffer c.line_of.ensures c.loop-change.invariant _ _ _ c.copy_to.ensures.answer c.in_ok-at.was c.copy_to.ensures.after
