use Rattle.std.proofs.Common.{◌<◌, length, arith}
use Rattle.std.proofs.lemmas.List.{length-map}
use Rattle.bank.specs.declared.register.Register.{Register}
use Rattle.bank.proofs.Clears.{registers_put}
use Rattle.bank.proofs.registers.RegisterChipChip.write.Goals as goal

pub returns-clause-after : goal.returns-clause-after
returns-clause-after c =
    let near : c.args.offset < length c.args.self.now.registers = omega (arith, length-map c.args.self.now.registers (λ (r : Register). r.value)) in
    registers_put c.args.self.now.registers c.args.offset c.args.byte _ _ near c.after.ensures.value (omega (arith, c.after.ensures.mask))
