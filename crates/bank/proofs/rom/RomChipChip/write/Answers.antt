use Rattle.bank.proofs.Fronts.{rom_put}
use Rattle.bank.proofs.rom.RomChipChip.write.Goals as goal

pub returns-clause-after : goal.returns-clause-after
returns-clause-after c = rom_put c.args.self.now.front c.args.offset c.args._byte
