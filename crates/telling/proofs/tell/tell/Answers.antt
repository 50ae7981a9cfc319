use Rattle.std.proofs.Common.{◌+◌, drop, sym, ap, ◌∙◌}
use Rattle.std.proofs.lemmas.List.{at_drop_more, at_drop_all}
use Rattle.model.specs.declared.changes.Change.TheVariants.{Removal}
use Rattle.telling.specs.Telling.{told_all}
use Rattle.telling.proofs.Following.{blank, follows}
use Rattle.telling.proofs.tell.tell.Goals as goal

pub loop-change-preserved : goal.loop-change-preserved
loop-change-preserved g c =
    ap (λ h. told_all h (drop (c.loop-change.change-index + 1) c.args.list.now)) c.tell_one.ensures
    ∙ sym (at_drop_more (told_all (g.L.Listener.hearing c.loop-change.listener)) c.args.list.now c.loop-change.change-index (Removal blank) c.loop-change-test.true)
    ∙ c.loop-change.invariant

pub returns : goal.returns
returns g c =
    let is = sym (at_drop_all (told_all (g.L.Listener.hearing c.loop-change.listener)) c.args.list.now c.loop-change.change-index c.loop-change-test.false) ∙ c.loop-change.invariant in
    record { after = is; follows = follows _ _ c.args.list.now (g.met.L.Listener.kept c.args.listener.now) is }
