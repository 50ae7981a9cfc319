use Rattle.std.proofs.Common.{◌≡◌, sym, ap, ◌∙◌}
use Rattle.interval.specs.Calls.{counted, written, cut_goal}
use Rattle.interval.proofs.Answered.{cut_goes}
use Rattle.interval.proofs.Standing.{cut_stands}
use Rattle.interval.proofs.edits.cut_checked.Goals as goal

pub returns : goal.returns
returns g c =
    let adv = g.L.Label.advanced in
    let xs = c.args.table.now in
    let e = cut_goes adv xs c.args.used c.args.start c.args.length c.requires in
    let n : c.replace.result ≡ counted (cut_goal adv xs c.args.used c.args.start c.args.length) = c.replace.ensures.count ∙ sym (ap counted e) in
    let t : c.replace.new.table ≡ written xs (cut_goal adv xs c.args.used c.args.start c.args.length) = c.replace.ensures.after ∙ sym (ap (written xs) e) in
    record { count = n; after = t; stands = cut_stands adv xs c.replace.new.table c.args.used c.replace.result g.met.L.Label.sum c.args.start c.args.length c.requires n t }
