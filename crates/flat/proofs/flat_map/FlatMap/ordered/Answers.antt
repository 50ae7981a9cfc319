use Rattle.flat.proofs.Flattening.{own_map}
use Rattle.flat.proofs.flat_map.FlatMap.ordered.Goals as goal

pub returns-clause-only : goal.returns-clause-only
returns-clause-only c = own_map c.args.self.now
