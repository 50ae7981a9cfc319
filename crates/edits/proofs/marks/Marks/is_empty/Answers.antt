use Rattle.std.proofs.Common.{not, true, ap}
use Rattle.std.proofs.lemmas.List.Elements.{contains_decides}
use Rattle.std.specs.Cmp.{booleans_Decides}
use Rattle.edits.proofs.Rounds.{any_marked}
use Rattle.edits.proofs.marks.Marks.is_empty.Goals as goal

pub returns : goal.returns
returns c = ap not (any_marked c.args.self.now _ (contains_decides _ booleans_Decides _ true _ c.contains.ensures.cases))
