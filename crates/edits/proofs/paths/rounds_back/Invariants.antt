use Rattle.tree.specs.Model.{model_of}
use Rattle.edits.specs.Marks.{IsSetOf, has, just}
use Rattle.edits.specs.PathTests.{reaches}
use Rattle.edits.proofs.paths.rounds_back.Given as goal

abbrev pub invariant-loop : goal.invariant-loop
invariant-loop l = IsSetOf (reaches (model_of l.table) (has l.fn.last) (just l.always) l.counter) l.marked
