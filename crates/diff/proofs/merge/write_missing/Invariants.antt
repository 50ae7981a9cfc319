use Rattle.std.proofs.Common.{◌≡◌, ◌++◌, ◌≤◌, map, length, drop, take}
use Rattle.model.specs.Changes.{entry}
use Rattle.diff.specs.ChangeLists.{ranges, missing}
use Rattle.diff.specs.Merge.{left_over}
use Rattle.diff.proofs.merge.write_missing.Given as goal

abbrev pub invariant-loop-record : goal.invariant-loop-record
invariant-loop-record l =
    let all = missing (ranges l.fn.xs) (ranges l.fn.ys) in
    let n = l.record-index in
    (n ≤ length all) × (left_over l.missing ≡ drop n all) × (l.list ≡ map (entry l.action) (take n all) ++ drop n l.initial.list)
