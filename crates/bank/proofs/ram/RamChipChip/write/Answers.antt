use Rattle.std.proofs.Common.{arith}
use Rattle.bank.proofs.Fronts.{ram_put}
use Rattle.bank.proofs.ram.RamChipChip.write.Goals as goal

pub returns-clause-after : goal.returns-clause-after
returns-clause-after c =
    ram_put c.args.self.now.front c.set.new.self c.args.offset c.args.byte (omega arith) c.set.ensures.shown c.set.ensures.after
