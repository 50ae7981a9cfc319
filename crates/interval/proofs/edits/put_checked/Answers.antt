use Rattle.std.proofs.Common.{◌≡◌, ◌<◌, ◌≤◌, sym, refl, ap, ◌∙◌, rules}
use Rattle.interval.specs.Stretches.{stop}
use Rattle.interval.specs.Edits.{ended, started}
use Rattle.interval.specs.Calls.{counted, written, put_goal}
use Rattle.interval.proofs.Answered.{put_taken, put_goes}
use Rattle.interval.proofs.Standing.{put_stands, put_free}
use Rattle.interval.proofs.edits.put_checked.Goals as goal

pub returns-then-not-is_empty : goal.returns-then-not-is_empty
returns-then-not-is_empty g c =
    let xs = c.args.table.now in
    let o = c.overlap-held.ensures in
    let from = o.from ∙ ap (ended c.args.new.start) c.of.ensures in
    let to = o.to ∙ ap (started (stop c.args.new)) c.of.ensures in
    let some : c.overlap-held.result.start < c.overlap-held.result.end = search rules in
    let e = put_taken xs c.args.used c.args.new _ _ from to c.requires some in
    record { count = sym (ap counted e); after = sym (ap (written xs) e); stands = refl; free = put_free g.L.Label.advanced xs xs c.args.used _ c.args.new c.requires (sym (ap counted e)) }

pub returns : goal.returns
returns g c =
    let xs = c.args.table.now in
    let o = c.overlap-held.ensures in
    let from = o.from ∙ ap (ended c.args.new.start) c.of.ensures in
    let to = o.to ∙ ap (started (stop c.args.new)) c.of.ensures in
    let none : c.overlap-held.result.end ≤ c.overlap-held.result.start = search rules in
    let e = put_goes xs c.args.used c.args.new _ _ from to c.requires none o.order in
    let n : c.splice.result ≡ counted (put_goal xs c.args.used c.args.new) = c.splice.ensures.count ∙ sym (ap counted e) in
    let t : c.splice.new.table ≡ written xs (put_goal xs c.args.used c.args.new) = c.splice.ensures.after ∙ sym (ap (written xs) e) in
    record {
      count = n;
      after = t;
      stands = put_stands g.L.Label.advanced xs c.splice.new.table c.args.used c.splice.result c.args.new c.requires n t;
      free = put_free g.L.Label.advanced xs c.splice.new.table c.args.used c.splice.result c.args.new c.requires n;
    }
