use Rattle.std.proofs.Common.{◌≡◌, sym, ap, ◌∙◌}
use Rattle.interval.specs.Calls.{counted, written, paint_goal}
use Rattle.interval.proofs.Answered.{paint_goes}
use Rattle.interval.proofs.Standing.{paint_stands}
use Rattle.interval.proofs.edits.paint_checked.Goals as goal

pub returns : goal.returns
returns g c =
    let adv = g.L.Label.advanced in
    let xs = c.args.table.now in
    let e = paint_goes adv xs c.args.used c.args.new c.requires in
    let n : c.replace.result ≡ counted (paint_goal adv xs c.args.used c.args.new) = c.replace.ensures.count ∙ sym (ap counted e) in
    let t : c.replace.new.table ≡ written xs (paint_goal adv xs c.args.used c.args.new) = c.replace.ensures.after ∙ sym (ap (written xs) e) in
    record { count = n; after = t; stands = paint_stands adv xs c.replace.new.table c.args.used c.replace.result g.met.L.Label.sum c.args.new c.requires n t }
