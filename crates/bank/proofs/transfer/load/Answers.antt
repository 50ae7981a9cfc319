use Rattle.std.proofs.Common.{◌+◌, ◌<◌, length, take, ◌∙◌, arith}
use Rattle.std.proofs.lemmas.List.{length-take}
use Rattle.std.proofs.lemmas.Option.{slice_get-get_or}
use Rattle.bank.proofs.Transfers.{fill_more, fill_all, loaded_fills}
use Rattle.bank.proofs.transfer.load.Goals as goal
use Rattle.bank.proofs.transfer.load.Goals.{in-Some, in_default}

pub loop-i-preserved : goal.loop-i-preserved
loop-i-preserved g c =
    let d = g.B.Bank.devices c.args.bank.now c.args.device in
    let o = c.args.offset in
    let i = c.loop-i.i in
    let run = take c.run_length-count.result c.args.out.now in
    let near : o + i < length d.bytes = omega (arith, length-take c.run_length-count.result c.args.out.now, c.run_length-count.ensures) in
    elim c.match-read.branch [
      | in-Some w ↦ w.run-is ∙ fill_more d o i w.in-Some.byte run c.loop-i.run near c.loop-i-test.true w.in-Some.ensures c.loop-i.invariant
      | in_default w ↦ absurd (w.in_default.not-Some _ (c.read.ensures ∙ slice_get-get_or d.bytes (o + i) 0 near))
    ]

pub returns : goal.returns
returns g c =
    let d = g.B.Bank.devices c.args.bank.now c.args.device in
    let after = fill_all d c.args.offset _ _ c.args.out.now _ c.loop-i-test.false c.loop-i.auto.i-end c.run_length-count.ensures c.loop-i.invariant in
    record { answer = c.run_length-count.ensures; after = after; fills = loaded_fills _ _ _ _ after }
