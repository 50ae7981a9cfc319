use Rattle.std.proofs.Common.{◌≡◌, sym, refl, ap, ◌∙◌, subst, w16}
use Rattle.std.proofs.lemmas.Result.{err_from_is_err_and}
use Rattle.std.proofs.lemmas.Int.{to_z-of_z}
use Rattle.tree.specs.declared.regions.Attachment.{Attachment}
use Rattle.tree.specs.Model.{Model, model_of}
use Rattle.tree.specs.Order.{inserted, without_child}
use Rattle.tree.proofs.Orders.{without_none}
use Rattle.edits.specs.declared.edit.Edit.TheVariants.{Attach}
use Rattle.edits.specs.Edges.{OneNew}
use Rattle.edits.specs.Edited.{with_order, edited}
use Rattle.edits.specs.Limits.{Low}
use Rattle.edits.specs.Rows.{attach_rows, path_rows}
use Rattle.edits.proofs.Sound.{passes, stopped, low_attachment, one_attachment, tested, none_told, some_told}
use Rattle.edits.proofs.Trees.{sound_tree}
use Rattle.edits.proofs.changes.attach.Goals as goal
use Rattle.edits.proofs.changes.attach.Goals.{After-with_child-table}

pub with_child-table-requires : goal.with_child-table-requires
with_child-table-requires c =
    let h = c.in_ok-new.ensures in
    subst Low (sym h.1) (low_attachment _ _ _ _ _ (passes (attach_rows (model_of c.args.tree.now.table) c.args.number c.args.parent c.args.offset) h.0))

-- the table with the attachment, which has no older one of its child
is_new : (c : After-with_child-table) → model_of c.with_child-table.result ≡ with_order (model_of c.args.tree.now.table) (inserted (record { child = c.args.number; parent = c.args.parent; offset = c.args.offset; priority = c.args.priority }) (model_of c.args.tree.now.table).attachments)
is_new c =
    let t = model_of c.args.tree.now.table in
    let h = c.in_ok-new.ensures in
    let ok = passes (attach_rows t c.args.number c.args.parent c.args.offset) h.0 in
    let same = ap (λ i. with_order t (inserted (record { child = c.args.number; parent = c.args.parent; offset = c.args.offset; priority = i }) (without_child c.args.number t.attachments))) (to_z-of_z w16 c.args.priority c.ranges.priority) in
    c.with_child-table.ensures ∙ ap (λ (a : Attachment). with_order t (inserted a (without_child a.child t.attachments))) h.1 ∙ same ∙ ap (λ cs. with_order t (inserted (record { child = c.args.number; parent = c.args.parent; offset = c.args.offset; priority = c.args.priority }) cs)) (without_none c.args.number t.attachments ok.1.1.1.1.1.0)

pub returns-in_err-new : goal.returns-in_err-new
returns-in_err-new c b =
    let p = err_from_is_err_and c.from_residual.result c.from_residual.ensures.1 in
    let t = model_of c.args.tree.now.table in
    rw (p.1, p.2) (stopped (attach_rows t c.args.number c.args.parent c.args.offset) (path_rows (edited b t (Attach c.args.number c.args.parent c.args.offset c.args.priority))) _ c.in_err-new.ensures)

pub check_paths-requires : goal.check_paths-requires
check_paths-requires c =
    let t = model_of c.args.tree.now.table in
    let h = c.in_ok-new.ensures in
    let ok = passes (attach_rows t c.args.number c.args.parent c.args.offset) h.0 in
    let from = ap (λ (a : Attachment). a.parent) h.1 in
    subst (λ (m : Model). OneNew m c.in_ok-new.new.parent) (sym (is_new (goal.at.check_paths-requires c).After-with_child-table)) (subst (OneNew _) (sym from) (one_attachment t c.args.number c.args.parent c.args.offset _ (sound_tree c.args.tree.now) ok))

pub returns-in_err-check_paths : goal.returns-in_err-check_paths
unfolding edited
returns-in_err-check_paths c b =
    let p = err_from_is_err_and c.from_residual-in_err-check_paths.result c.from_residual-in_err-check_paths.ensures.1 in
    let t = model_of c.args.tree.now.table in
    let is = is_new (goal.at.returns-in_err-check_paths c).After-with_child-table in
    let rows = tested b t (Attach c.args.number c.args.parent c.args.offset c.args.priority) (attach_rows t c.args.number c.args.parent c.args.offset) _ refl c.in_ok-new.ensures.0 is in
    rw (p.1, p.2) (rows ∙ some_told _ _ c.in_err-check_paths.ensures)

pub returns : goal.returns
unfolding edited
returns c b =
    let t = model_of c.args.tree.now.table in
    let is = is_new (goal.at.returns c).After-with_child-table in
    let rows = tested b t (Attach c.args.number c.args.parent c.args.offset c.args.priority) (attach_rows t c.args.number c.args.parent c.args.offset) _ refl c.in_ok-new.ensures.0 is in
    (rows ∙ none_told _ _ c.in_ok-check_paths.ensures, is)
