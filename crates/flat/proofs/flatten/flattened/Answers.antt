use Rattle.std.proofs.Common.{Ok, true≢false, sym, ap, subst, ◌∙◌}
use Rattle.sweep.specs.Laws.{below}
use Rattle.flat.specs.Laws.{OnlyMap}
use Rattle.flat.specs.Ranges.{settled}
use Rattle.flat.proofs.Flattening.{swept_by, swept_settled, swept_only, swept_is}
use Rattle.flat.proofs.flatten.flattened.Goals as goal

pub invariant_of-result : goal.invariant_of-result
invariant_of-result g c =
    let f = g.S.Source.shows c.args.source.now in
    let w = swept_by _ f c.args.size _ c.sweep.new.table c.sweep.result c.map_err.result c.in_ok-used.used c.sweep.ensures.stands c.map_err.ensures.cases c.in_ok-used.was in
    record { apart = ap settled c.in-Ok.ensures.1 ∙ swept_settled f c.args.size _ c.sweep.new.table c.in_ok-used.used c.sweep.auto.table w }

pub returns : goal.returns
returns g c =
    let f = g.S.Source.shows c.args.source.now in
    let rows = c.sweep.auto.table in
    let w = swept_by _ f c.args.size _ c.sweep.new.table c.sweep.result c.map_err.result c.in_ok-used.used c.sweep.ensures.stands c.map_err.ensures.cases c.in_ok-used.was in
    record {
      is = ap Ok c.in-Ok.ensures.1 ∙ swept_is f c.args.size _ c.sweep.new.table c.in_ok-used.used rows w c.requires;
      stands = subst (OnlyMap (below c.args.size f)) (sym c.in-Ok.ensures.1) (swept_only f c.args.size _ c.sweep.new.table c.in_ok-used.used rows w);
    }

pub returns-in_default : goal.returns-in_default
returns-in_default g c =
    let f = g.S.Source.shows c.args.source.now in
    let w = swept_by _ f c.args.size _ c.sweep.new.table c.sweep.result c.map_err.result c.in_ok-used.used c.sweep.ensures.stands c.map_err.ensures.cases c.in_ok-used.was in
    absurd (true≢false (sym w.stands.order ∙ c.in_default.ensures.0))
