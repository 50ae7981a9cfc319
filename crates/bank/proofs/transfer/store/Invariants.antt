use Rattle.std.proofs.Common.{◌≡◌, ◌+◌, length, drop}
use Rattle.bank.specs.Transfers.{stored}
use Rattle.bank.proofs.transfer.store.Given as goal

abbrev pub invariant-loop-i : goal.invariant-loop-i
invariant-loop-i g l =
    let m = g.B.Bank.devices in
    (length (m l.bank l.device).bytes ≡ length (m l.initial.bank l.device).bytes) × (stored (m l.bank) l.device (l.offset + l.i) (drop l.i l.bytes) ≡ stored (m l.initial.bank) l.device l.offset l.bytes)
