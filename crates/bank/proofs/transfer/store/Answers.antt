use Rattle.std.proofs.Common.{◌≡◌, ◌+◌, ◌<◌, length, sym, ap, ◌∙◌, arith}
use Rattle.std.proofs.lemmas.List.{length-take, get_or-take}
use Rattle.bank.specs.Devices.{wrote}
use Rattle.bank.specs.Transfers.{reach, stored}
use Rattle.bank.proofs.Transfers.{store_more, store_long, store_all, store_alters}
use Rattle.bank.proofs.transfer.store.Goals as goal

pub loop-i-preserved : goal.loop-i-preserved
loop-i-preserved g c =
    let m = g.B.Bank.devices c.loop-i.bank in
    let m' = g.B.Bank.devices c.write.new.self in
    let n = c.args.device in
    let o = c.args.offset in
    let i = c.loop-i.i in
    let bs = c.args.bytes.now in
    let k = c.run_length-count.result in
    let start = g.B.Bank.devices c.args.bank.now in
    let in_run : i < k = omega (arith, length-take k bs) in
    let in_bytes : i < length bs = omega (arith, length-take k bs) in
    let after = c.write.ensures.after ∙ ap (wrote m n (o + i)) (get_or-take k bs i 0 in_run) in
    (store_long m m' n o i bs in_bytes after (length (start n).bytes) c.loop-i.invariant.0, store_more m m' n o i bs in_bytes after (stored start n o bs) c.loop-i.invariant.1)

pub returns : goal.returns
returns g c =
    let m = g.B.Bank.devices c.loop-i.bank in
    let bs = c.args.bytes.now in
    let end : c.loop-i.i ≡ reach (m c.args.device) c.args.offset (length bs) = omega (arith, length-take c.run_length-count.result bs, c.run_length-count.ensures, c.loop-i.invariant.0) in
    let after = sym (store_all m c.args.device c.args.offset c.loop-i.i bs end) ∙ c.loop-i.invariant.1 in
    record {
      answer = c.run_length-count.ensures;
      after = after;
      alters = store_alters _ _ _ _ _ after;
    }
