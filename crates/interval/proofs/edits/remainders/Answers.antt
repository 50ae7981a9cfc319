use Rattle.std.proofs.Common.{◌∙◌, arith, ltb-false, ltb-true}
use Rattle.std.specs.List.{between}
use Rattle.interval.proofs.Cutting.{last_is}
use Rattle.interval.proofs.edits.remainders.Goals as goal

pub returns-in-len2-up-clause-behind : goal.returns-in-len2-up-clause-behind
returns-in-len2-up-clause-behind g c =
    let held = between c.args.held.now.start c.args.held.now.end c.args.table.now in
    c.right_of-in-len2-up.ensures ∙ last_is g.L.Label.advanced c.args.span.now.end held c.last-item.result _ (omega (arith, ltb-true, ltb-false)) c.last-item.is
