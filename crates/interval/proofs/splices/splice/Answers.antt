use Rattle.std.proofs.Common.{◌≡◌, ◌+◌, ◌-◌, ◌++◌, length, drop, Ok, sym, ap, ◌∙◌, arith}
use lib.Seq.{paste}
use Rattle.std.specs.Option.{option_to_list}
use Rattle.interval.specs.Calls.{counted, written, spliced}
use Rattle.interval.proofs.Fits.{fits}
use Rattle.interval.proofs.Placing.{length_three, length_spliced, spliced_is, paste_three}
use Rattle.interval.proofs.splices.splice.Goals as goal

pub returns : goal.returns
returns g c =
    let xs = c.args.table.now in
    let l = option_to_list c.args.left in
    let m = option_to_list c.args.middle in
    let r = option_to_list c.args.right in
    let ps = l ++ m ++ r in
    let from = c.args.held.now.start in
    let to = c.args.held.now.end in
    let used = c.args.used in
    let n = length_three l m r in
    let k = length_spliced xs ps used from to c.requires.order c.requires.within c.requires.used_within in
    let e = fits xs (spliced xs used from to ps) (omega arith) in
    let same : c.count_of.result + c.count_of-2.result + c.count_of-3.result ≡ length ps = omega arith in
    let moved : c.copy_within.new.self ≡ paste xs (from + length ps) (drop to xs) (used - to) = c.copy_within.ensures.after ∙ ap (λ z. paste xs (from + z) (drop to xs) (used - to)) same in
    let put : c.write.new.table ≡ paste c.copy_within.new.self from ps (length ps)
    = paste_three c.copy_within.new.self l m r c.write-at.new.table c.write-at-2.new.table c.write.new.table from c.write-at.result c.write-at-2.result
    (omega (arith, c.copy_within.ensures.len)) c.write-at.ensures.after c.write-at.ensures.next c.write-at-2.ensures.after c.write-at-2.ensures.next c.write.ensures.after in
    record {
      count = ap Ok (omega arith) ∙ sym (ap counted e);
      after = put ∙ ap (λ z. paste z from ps (length ps)) moved ∙ spliced_is xs ps used from to c.requires.order c.requires.within c.requires.used_within (omega arith) ∙ sym (ap (written xs) e);
    }
