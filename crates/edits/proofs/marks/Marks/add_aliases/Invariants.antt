use Rattle.std.proofs.Common.{◌≡◌, ℕ, ◌||◌, ◌&&◌, ltb, get_or, None}
use Rattle.std.specs.List.{list_any}
use Rattle.edits.specs.Marks.{has}
use Rattle.edits.specs.PathTests.{targets_of}
use Rattle.edits.proofs.marks.Marks.add_aliases.Given as goal

abbrev pub invariant-loop-number : goal.invariant-loop-number
invariant-loop-number l = (k : ℕ) → has l.self k ≡ (has l.initial.self k || (ltb k l.number && list_any (has l.marked) (targets_of (get_or l.regions k None))))
