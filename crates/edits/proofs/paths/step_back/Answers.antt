use Rattle.std.proofs.Common.{◌||◌, ap, ◌∙◌}
use Rattle.std.specs.List.{list_any}
use Rattle.tree.specs.Model.{model_of}
use Rattle.edits.specs.Marks.{has, children}
use Rattle.edits.proofs.Rounds.{stepped}
use Rattle.edits.proofs.paths.step_back.Goals as goal

pub returns : goal.returns
returns c =
    stepped (has c.args.marked.now) (model_of c.args.table.now) c.none-before.result c.add_parents.new.self c.add_aliases.new.self c.none-before.ensures
    (λ k low. c.add_parents.ensures k low ∙ ap (λ cs. has c.none-before.result k || list_any (has c.args.marked.now) (children k cs)) c.attachments.ensures)
    c.add_aliases.ensures
