use Rattle.std.proofs.Common.{arith, rules}
use Rattle.listener.proofs.Changing.{Removed, not_there, taken_out}
use Rattle.listener.proofs.slots.SlotsListener.remove.Goals as goal
use Rattle.listener.proofs.slots.SlotsListener.remove.Goals.{In_ok-slot}

removed : (g : _) (c : In_ok-slot g) → Removed g.K.KindSet.taken g.row.N c.args.self.now.slots c.args.range c.in_ok-slot.slot
removed g c =
    let s = c.args.self.now in
    taken_out g.K.KindSet.taken g.row.N s.slots c.args.range s.whole s.apart _ (search rules)

pub returns-in_err-slot-clause-after : goal.returns-in_err-slot-clause-after
returns-in_err-slot-clause-after g c =
    let s = c.args.self.now in
    not_there g.K.KindSet.taken g.row.N s.slots c.args.range s.whole s.apart (search rules)

pub overflow_sub-self : goal.overflow_sub-self
overflow_sub-self g c =
    let d = removed g (goal.at.overflow_sub-self g c).In_ok-slot in
    omega (arith, d.shorter, c.args.self.now.counted)

pub invariant_of-self : goal.invariant_of-self
invariant_of-self g c = let d = removed g (goal.at.invariant_of-self g c).In_ok-slot in record { whole = d.whole; apart = d.apart; counted = omega (arith, d.shorter, c.args.self.now.counted) }

pub returns-clause-after : goal.returns-clause-after
returns-clause-after g c = (removed g (goal.at.returns-clause-after g c).In_ok-slot).after

pub returns-clause-stays : goal.returns-clause-stays
returns-clause-stays g c = (removed g (goal.at.returns-clause-stays g c).In_ok-slot).stays
