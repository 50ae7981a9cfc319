use Rattle.std.proofs.ByRecursion.{All-set}
use Rattle.edits.proofs.Limits.{Fine, fine_from, from_fine}
use Rattle.edits.proofs.tables.with_region.Goals as goal

pub invariant_of-table-clause-sizes : goal.invariant_of-table-clause-sizes
invariant_of-table-clause-sizes c = from_fine _ (All-set Fine c.args.table.regions _ _ c.requires.bounded (fine_from c.args.table.regions c.args.table.sizes))
