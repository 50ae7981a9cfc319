use Rattle.std.proofs.Common.{◌≡◌, Bool, true, false, not, None, refl, ap, ◌∙◌}
use Rattle.tree.specs.Model.{model_of}
use Rattle.edits.specs.Marks.{just}
use Rattle.edits.specs.PathTests.{goes_on, too_long}
use Rattle.edits.proofs.Limits.{bounded_table}
use Rattle.edits.proofs.Rounds.{any_of_set, goes_on_set}
use Rattle.edits.proofs.paths.is_too_long.Goals as goal

twice : (b : Bool) → not (not b) ≡ b
twice true = refl
twice false = refl

pub returns : goal.returns
unfolding too_long
returns c =
    let t = model_of c.args.table.now in
    ap not c.is_empty.ensures ∙ twice _ ∙ any_of_set (goes_on t 9) c.rounds_back.result (goes_on_set t c.all-anywhere.result c.rounds_back.result (just None) 9 (bounded_table c.args.table.now) c.all-anywhere.ensures (λ k lt. refl) c.rounds_back.ensures)
