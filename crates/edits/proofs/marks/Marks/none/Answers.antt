use Rattle.std.proofs.Common.{false}
use Rattle.std.proofs.lemmas.List.{get_or-replicate}
use Rattle.edits.proofs.marks.Marks.none.Goals as goal

pub returns : goal.returns
returns c k lt = get_or-replicate 64 k false false lt
