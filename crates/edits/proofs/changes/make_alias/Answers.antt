use Rattle.std.proofs.Common.{Some, sym, refl, ◌∙◌, subst}
use Rattle.std.proofs.lemmas.Result.{err_from_is_err_and}
use Rattle.tree.specs.declared.regions.Body.TheVariants as body
use Rattle.tree.specs.Model.{Model, model_of, fresh}
use Rattle.edits.specs.declared.edit.Edit.TheVariants.{Alias}
use Rattle.edits.specs.Edges.{OneNew}
use Rattle.edits.specs.Edited.{with_region, edited}
use Rattle.edits.specs.Rows.{alias_rows}
use Rattle.edits.proofs.Limits.{Fine}
use Rattle.edits.proofs.Sound.{passes, fine_alias, one_alias, tested, none_told, some_told}
use Rattle.edits.proofs.Trees.{sound_tree}
use Rattle.edits.proofs.changes.make_alias.Goals as goal

pub with_region-table-requires-clause-bounded : goal.with_region-table-requires-clause-bounded
with_region-table-requires-clause-bounded c =
    let t = model_of c.args.tree.now.table in
    let h = c.in_ok-alias.ensures in
    let ok = passes (alias_rows t c.args.number c.args.size c.args.target c.args.from) h.0 in
    subst (λ g. Fine (Some g)) (sym h.1.1) (fine_alias t c.args.number c.args.size c.args.target c.args.from ok)

pub check_paths-requires : goal.check_paths-requires
check_paths-requires c =
    let t = model_of c.args.tree.now.table in
    let h = c.in_ok-alias.ensures in
    let ok = passes (alias_rows t c.args.number c.args.size c.args.target c.args.from) h.0 in
    let is = c.with_region-table.ensures ∙ (λ i. with_region t (h.1.0 i) (Some (h.1.1 i))) in
    subst (λ (m : Model). OneNew m c.in_ok-alias.alias.number) (sym is) (subst (λ n. OneNew (with_region t c.args.number (Some (fresh (body.Alias c.args.target c.args.from) c.args.size))) n) (sym h.1.0) (one_alias t c.args.number c.args.size c.args.target c.args.from (sound_tree c.args.tree.now) ok))

pub returns-in_err-check_paths : goal.returns-in_err-check_paths
unfolding edited
returns-in_err-check_paths c b =
    let p = err_from_is_err_and c.from_residual-in_err-check_paths.result c.from_residual-in_err-check_paths.ensures.1 in
    let t = model_of c.args.tree.now.table in
    let h = c.in_ok-alias.ensures in
    let is = c.with_region-table.ensures ∙ (λ i. with_region t (h.1.0 i) (Some (h.1.1 i))) in
    let rows = tested b t (Alias c.args.number c.args.size c.args.target c.args.from) (alias_rows t c.args.number c.args.size c.args.target c.args.from) _ refl h.0 is in
    rw (p.1, p.2) (rows ∙ some_told _ _ c.in_err-check_paths.ensures)

pub returns : goal.returns
unfolding edited
returns c b =
    let t = model_of c.args.tree.now.table in
    let h = c.in_ok-alias.ensures in
    let is = c.with_region-table.ensures ∙ (λ i. with_region t (h.1.0 i) (Some (h.1.1 i))) in
    let rows = tested b t (Alias c.args.number c.args.size c.args.target c.args.from) (alias_rows t c.args.number c.args.size c.args.target c.args.from) _ refl h.0 is in
    (rows ∙ none_told _ _ c.in_ok-check_paths.ensures, is)
