use Rattle.std.proofs.Common.{◌+◌, ◌*◌, drop}
use Rattle.tree.specs.Model.{model_of, under}
use Rattle.tree.specs.Search.{look}
use Rattle.tree.proofs.Sighted.{Untried}
use Rattle.tree.proofs.probes.+seek_seek_under.Given as goal

abbrev pub decreases-seek : goal.decreases-seek
decreases-seek l = 2 * l.fuel

abbrev pub decreases-seek_under : goal.decreases-seek_under
decreases-seek_under l = 2 * l.fuel + 1

abbrev pub invariant-seek_under-loop-attachment : goal.invariant-seek_under-loop-attachment
invariant-seek_under-loop-attachment l = Untried (model_of l.tree.table) (look l.fuel (model_of l.tree.table)) (under l.parent l.attachment-items) (under l.parent (drop l.attachment-index l.attachment-items)) l.probe.address l.probe.mark l.initial.limit l.limit
