use Rattle.sweep.proofs.Counting.{come_start}
use Rattle.sweep.proofs.walks.Walk.new.Goals as goal

pub returns : goal.returns
returns g c = come_start _ _ _ c.args.size
