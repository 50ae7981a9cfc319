use Rattle.std.proofs.Common.{refl}
use Rattle.bank.proofs.Halves.{paired_shares}
use Rattle.bank.proofs.pair.Pair.new.Goals as goal

pub returns : goal.returns
returns g c = record { meaning = refl; shares = paired_shares _ _ }
