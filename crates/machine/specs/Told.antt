-- A call's result as an answer.
use Rattle.std.specs.Prelude.{ℕ, List, Ok, Err, Result}
use Rattle.model.specs.declared.changes.Change.{Change}
use Rattle.model.specs.declared.faults.Fault.{Fault}
use Rattle.diff.specs.declared.counts.Counts.{Counts}
use Rattle.diff.specs.Laws.{entries}
use Rattle.machine.specs.Calls.{Answer, refused, changed, given, done}

-- where it gives no more than that it was accepted
abbrev pub told_done : {X : Type 0} → Result X Fault → Answer
told_done (Ok x) = done
told_done (Err f) = refused f

-- a read's, with what its buffer holds then
abbrev pub told_bytes : {X : Type 0} → Result X Fault → List ℕ → Answer
told_bytes (Ok x) bytes = given bytes
told_bytes (Err f) bytes = refused f

-- a commit's, with what the caller's list holds then
abbrev pub told_changes : Result Counts Fault → List Change → Answer
told_changes (Ok n) list = changed (entries n list) n
told_changes (Err f) list = refused f
