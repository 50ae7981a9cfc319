use Rattle.std.proofs.Common.{sym, refl, ap, ◌∙◌, subst}
use Rattle.std.proofs.lemmas.Result.{err_from_is_err_and}
use Rattle.tree.specs.Model.{Model, model_of}
use Rattle.edits.specs.Edited.{edited}
use Rattle.edits.specs.Promises.{Reordered}
use Rattle.model.specs.Rows.{told, unless}
use Rattle.edits.specs.Rows.{edit_rows, edit_refusal}
use Rattle.edits.proofs.Promised.{paths_told, reordered}
use Rattle.edits.proofs.Sound.{Sound, passes, sound_edit}
use Rattle.edits.proofs.Trees.{sound_tree}
use Rattle.edits.proofs.apply.edit.Goals as goal

pub returns-in_err-table : goal.returns-in_err-table
unfolding edit_refusal
returns-in_err-table c =
    let p = err_from_is_err_and c.from_residual.result c.from_residual.ensures.1 in
    let t = model_of c.args.tree.now.table in
    let h = c.in_err-table.ensures in
    rw (p.1, p.2) (record {
      answer = ap told (sym h);
      after = ap (λ q. unless q (edited c.args.backing t c.args.edit) t) (sym h);
      paths = paths_told c.args.backing t c.args.edit _ (sound_tree c.args.tree.now) (ap told (sym h));
      order = refl;
    })

pub invariant_of-tree : goal.invariant_of-tree
invariant_of-tree c =
    let t = model_of c.args.tree.now.table in
    let h = c.in_ok-table.ensures in
    let e = c.args.edit in
    let sound = subst Sound (sym h.1) (sound_edit c.args.backing t e (passes (edit_rows c.args.backing t e) h.0) (sound_tree c.args.tree.now)) in
    record { short = sound.short }

pub returns : goal.returns
unfolding edit_refusal
returns c =
    let t = model_of c.args.tree.now.table in
    let e = c.args.edit in
    let b = c.args.backing in
    let h = c.in_ok-table.ensures in
    let sound = sound_tree c.args.tree.now in
    record {
      answer = ap told (sym h.0);
      after = h.1 ∙ ap (λ q. unless q (edited b t e) t) (sym h.0);
      paths = paths_told b t e _ sound (ap told (sym h.0));
      order = subst (λ (m : Model). Reordered e t.attachments m.attachments) (sym h.1) (reordered b t e sound (passes (edit_rows b t e) h.0));
    }
