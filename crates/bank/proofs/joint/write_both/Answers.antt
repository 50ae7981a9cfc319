use Rattle.std.proofs.Common.{◌<◌, length, arith}
use Rattle.bank.proofs.Joining.{both_answer, both_after, both_order}
use Rattle.bank.proofs.joint.write_both.Goals as goal

pub returns : goal.returns
returns g c =
    let m = g.B.Bank.devices c.args.bank.now in
    let v = c.args.first in
    let w = c.args.second in
    let h : v.offset < length (m v.device).bytes = omega arith in
    let k : w.offset < length (m w.device).bytes = omega arith in
    let one = c.write.ensures.after in
    let two = c.write-2.ensures.after in
    record {
      answer = both_answer m _ _ v w h k one two _ c.write-2.ensures.answer;
      after = both_after m _ _ v w h k one two;
      order = both_order m _ _ v w h k one two;
    }
