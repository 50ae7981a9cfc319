use Rattle.std.proofs.Common.{ap}
use Rattle.bank.specs.Devices.{single}
use Rattle.bank.proofs.Fronts.{rom_fresh}
use Rattle.bank.proofs.rom.Lone+RomChip.new.Goals as goal

pub returns : goal.returns
returns c =
    ap single (rom_fresh c.copy_of.result c.args.bytes.now c.copy_of.ensures.shown c.copy_of.ensures.len)
