use Rattle.std.proofs.Common.{◌≡◌, ℕ, ◌||◌, ◌<◌, take}
use Rattle.std.specs.List.{list_any}
use Rattle.edits.specs.Marks.{has, children}
use Rattle.edits.proofs.marks.Marks.add_parents.Given as goal

abbrev pub invariant-loop-attachment : goal.invariant-loop-attachment
invariant-loop-attachment l = (k : ℕ) → k < 64 → has l.self k ≡ (has l.initial.self k || list_any (has l.marked) (children k (take l.attachment-index l.attachments)))
