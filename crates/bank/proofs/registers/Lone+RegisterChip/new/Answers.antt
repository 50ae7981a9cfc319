use Rattle.std.proofs.Common.{ap, arith}
use Rattle.bank.specs.declared.register.Register.{Register}
use Rattle.bank.specs.Devices.{single}
use Rattle.bank.proofs.Clears.{registers_fresh}
use Rattle.bank.proofs.registers.Lone+RegisterChip.new.Goals as goal

pub returns : goal.returns
returns c =
    let d : Register = record { value = 0; mask = 0; small = omega arith; narrow = omega arith } in
    ap single (registers_fresh c.loop-place.registers c.args.masks d c.loop-place.invariant.0 (omega arith) (λ i k. c.loop-place.invariant.1 d i (omega arith)))
