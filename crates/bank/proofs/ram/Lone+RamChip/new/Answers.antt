use Rattle.std.proofs.Common.{ap}
use Rattle.bank.specs.Devices.{single}
use Rattle.bank.proofs.Fronts.{ram_fresh}
use Rattle.bank.proofs.ram.Lone+RamChip.new.Goals as goal

pub returns : goal.returns
returns c = ap single (ram_fresh c.zeros-front.result _ c.args.len c.zeros-front.ensures.shown c.zeros-front.ensures.len c.shown_length.ensures)
