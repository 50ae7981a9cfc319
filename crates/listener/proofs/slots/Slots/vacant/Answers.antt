use Rattle.std.proofs.Common.{length, sym, ap}
use lib.ListN.{length-replicate}
use Rattle.listener.specs.Slotting.{none_held, none_lone}
use Rattle.listener.proofs.slots.Slots.vacant.Goals as goal

pub invariant_of-result : goal.invariant_of-result
invariant_of-result g c = record { whole = length-replicate g.row.N _; apart = none_lone g.row.N; counted = sym (ap length (none_held g.row.N)) }

pub returns : goal.returns
returns g c = ap (λ xs. record { held = xs; kinds = g.K.KindSet.taken; capacity = g.row.N }) (none_held g.row.N)
