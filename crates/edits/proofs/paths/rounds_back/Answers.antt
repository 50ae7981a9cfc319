use Rattle.tree.specs.Model.{model_of}
use Rattle.edits.specs.Marks.{just}
use Rattle.edits.proofs.Limits.{bounded_table}
use Rattle.edits.proofs.Rounds.{reach_first, reach_more}
use Rattle.edits.proofs.paths.rounds_back.Goals as goal

pub loop-init : goal.loop-init
loop-init c = reach_first (model_of c.args.table.now) c.args.last (just c.args.always)

pub loop-preserved : goal.loop-preserved
loop-preserved c = reach_more (model_of c.args.table.now) c.args.last (just c.args.always) c.loop.marked c.add_some.new.self c.step_back-marked.result c.loop.counter (bounded_table c.args.table.now) c.loop.invariant c.add_some.ensures c.step_back-marked.ensures
