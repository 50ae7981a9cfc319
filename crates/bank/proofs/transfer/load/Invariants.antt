use Rattle.std.proofs.Common.{◌≡◌}
use Rattle.bank.specs.Transfers.{filled}
use Rattle.bank.proofs.transfer.load.Given as goal

abbrev pub invariant-loop-i : goal.invariant-loop-i
invariant-loop-i g l = l.run ≡ filled (g.B.Bank.devices l.bank l.device) l.offset l.i l.initial.run
