use Rattle.std.proofs.Common.{Some, refl, ◌∙◌}
use Rattle.tree.specs.Model.{model_of}
use Rattle.edits.specs.Marks.{just}
use Rattle.edits.proofs.Limits.{bounded_table}
use Rattle.edits.proofs.Rounds.{leads_to_set, leads_at}
use Rattle.edits.proofs.Walks.{numbered, back_is}
use Rattle.edits.proofs.paths.comes_back.Goals as goal

pub returns : goal.returns
returns c =
    let t = model_of c.args.table.now in
    let h = bounded_table c.args.table.now in
    let one = c.requires in
    let marks = leads_to_set t c.none-nowhere.result c.rounds_back.result (just (Some c.args.from)) c.args.from 9 h c.none-nowhere.ensures (λ k lt. refl) c.rounds_back.ensures in
    c.has.ensures ∙ leads_at t c.args.from 9 c.rounds_back.result h marks ∙ back_is one.before t c.args.from one.to one.one one.short (numbered t h)
