use Rattle.std.proofs.Common.{◌≡◌, ◌+◌, ◌-◌, ◌^◌, ◌||◌, ◌<◌, ◌≤◌, sym, subst, arith, rules}
use Rattle.tree.specs.Model.{model_of, subregions}
use Rattle.tree.specs.Sights.{SeesIn, SeesUnder}
use Rattle.tree.proofs.Sighted.{Untried, sees_leaf, sees_alias, sees_container, turn_before, turn_missed, turn_found}
use Rattle.tree.proofs.probes.+seek_seek_under.Goals as goal

pub seek-returns-in-Leaf : goal.seek-returns-in-Leaf
seek-returns-in-Leaf t c =
    let more : 0 < c.args.fuel = omega arith in
    let small : c.in-Some.region.size ≤ 2 ^ 40 = search rules in
    let mark : c.if-probe.inside ≡ (c.args.probe.mark || c.in-Some.region.protected) = search rules in
    sees_leaf _ _ _ _ _ _ more _ _ (search rules) c.if-not-region.false c.if-probe-region.false c.min.ensures _ _ _ c.in-Leaf.is small (rw mark at c.place_in_leaf-place.ensures)

pub seek-returns-in-Alias : goal.seek-returns-in-Alias
seek-returns-in-Alias t c =
    let more : 0 < c.args.fuel = omega arith in
    let mark : c.if-probe.inside ≡ (c.args.probe.mark || c.in-Some.region.protected) = search rules in
    sees_alias _ _ _ _ _ _ more _ _ (search rules) c.if-not-region.false c.if-probe-region.false c.min.ensures _ _ _ c.in-Alias.is (subst (λ m. SeesIn (c.args.fuel - 1) (model_of c.args.tree.now.table) c.in-Alias.target (c.args.probe.address + c.in-Alias.from) m c.min.result c.seek.result) mark c.seek.ensures)

pub seek-returns-in-Container : goal.seek-returns-in-Container
seek-returns-in-Container t c =
    let more : 0 < c.args.fuel = omega arith in
    let mark : c.if-probe.inside ≡ (c.args.probe.mark || c.in-Some.region.protected) = search rules in
    sees_container _ _ _ _ _ _ more _ _ (search rules) c.if-not-region.false c.if-probe-region.false c.min.ensures _ c.in-Container.is (subst (λ m. SeesUnder (c.args.fuel - 1) (model_of c.args.tree.now.table) (subregions (model_of c.args.tree.now.table) c.args.number) c.args.probe.address m c.min.result c.seek_under.result) mark c.seek_under.ensures)

pub seek_under-returns-then-is_some : goal.seek_under-returns-then-is_some
seek_under-returns-then-is_some t c =
    rw c.attachments-attachment-items.ensures at (turn_found _ _ _ _ _ _ _ _ _ _ c.loop-attachment.invariant _ c.loop-attachment-test.true c.if-attachment-parent.false c.if-probe-attachment.false c.seek-seen.ensures c.if-is_some.ensures)

pub seek_under-loop-attachment-preserved-then-probe-attachment : goal.seek_under-loop-attachment-preserved-then-probe-attachment
seek_under-loop-attachment-preserved-then-probe-attachment t c =
    subst (Untried _ _ _ _ _ _ _) (sym c.min-limit.ensures) (turn_before _ _ _ _ _ _ _ _ _ _ c.loop-attachment.invariant c.loop-attachment-test.true c.if-attachment-parent.false c.if-probe-attachment.true)

pub seek_under-loop-attachment-preserved : goal.seek_under-loop-attachment-preserved
seek_under-loop-attachment-preserved t c =
    turn_missed _ _ _ _ _ _ _ _ _ _ c.loop-attachment.invariant _ c.loop-attachment-test.true c.if-attachment-parent.false c.if-probe-attachment.false c.seek-seen.ensures c.if-is_some.ensures
