use Rattle.std.proofs.Common.{true, false, pos, refl}
use Rattle.tree.specs.declared.regions.Attachment.{Attachment}
use Rattle.edits.specs.Marks.{has}
use Rattle.edits.proofs.Rounds.{parent_added}
use Rattle.edits.proofs.marks.Marks.add_parents.Goals as goal
use Rattle.edits.proofs.marks.Marks.add_parents.Goals.{then-has, else-has}

abbrev blank : Attachment
blank = record { child = 0; parent = 0; offset = 0; priority = pos 0 }

pub loop-attachment-preserved : goal.loop-attachment-preserved
loop-attachment-preserved c =
    let added = parent_added (has c.args.marked.now) c.args.attachments.now c.loop-attachment.attachment-index blank c.args.self.now c.loop-attachment.self c.if-has.self in
    let lt = c.loop-attachment-test.true in
    let inv = c.loop-attachment.invariant in
    elim c.if-has.branch [
      | then-has w ↦ added true lt inv w.if-has.ensures (rw w.self-is w.add.ensures)
      | else-has w ↦ added false lt inv w.if-has.ensures (rw w.self-is (λ k low. refl))
    ]
