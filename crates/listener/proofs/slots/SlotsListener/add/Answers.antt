use Rattle.std.proofs.Common.{◌≡◌, ◌<◌, sym, ap, false, arith, rules}
use Rattle.listener.specs.Hearing.{admits, answered}
use Rattle.listener.specs.Slots.{table}
use Rattle.listener.proofs.Changing.{Added, no_room, put_in}
use Rattle.listener.proofs.Hearings.{stays_refused}
use Rattle.listener.proofs.slots.SlotsListener.add.Goals as goal
use Rattle.listener.proofs.slots.SlotsListener.add.Goals.{After-from_residual, In_ok-free}

refused : (g : _) (c : After-from_residual g) → admits (table g.K.KindSet.taken g.row.N c.args.self.now.slots) c.args.range ≡ false
refused g c =
    let s = c.args.self.now in
    no_room g.K.KindSet.taken g.row.N s.slots c.args.range s.whole s.apart c.if-not-takes.ensures c.if-not-is_lawful.ensures c.if-not-is_clear.ensures (search rules)

added : (g : _) (c : In_ok-free g) → Added g.K.KindSet.taken g.row.N c.args.self.now.slots c.args.range c.in_ok-free.free
added g c =
    let s = c.args.self.now in
    put_in g.K.KindSet.taken g.row.N s.slots c.args.range s.whole s.apart c.if-not-takes.ensures c.if-not-is_lawful.ensures c.if-not-is_clear.ensures _ (search rules)

pub returns-in_err-free-clause-answer : goal.returns-in_err-free-clause-answer
returns-in_err-free-clause-answer g c = let no = ap answered (refused g c) in search rules

pub returns-in_err-free-clause-after : goal.returns-in_err-free-clause-after
returns-in_err-free-clause-after g c = sym (stays_refused _ c.args.range (refused g c))

pub offset_bounds-self-free : goal.offset_bounds-self-free
offset_bounds-self-free g c = let h = (added g c).within in search rules

pub bounds-self-free : goal.bounds-self-free
bounds-self-free g c = (added g (goal.at.bounds-self-free g c).In_ok-free).within

pub overflow_add-self : goal.overflow_add-self
overflow_add-self g c =
    let s = c.args.self.now in
    let d = added g (goal.at.overflow_add-self g c).In_ok-free in
    let few : s.count < g.row.N = omega (arith, s.counted, d.few) in
    search rules

pub invariant_of-self : goal.invariant_of-self
invariant_of-self g c = let d = added g (goal.at.invariant_of-self g c).In_ok-free in record { whole = d.whole; apart = d.apart; counted = omega (arith, d.longer, c.args.self.now.counted) }

pub returns : goal.returns
returns g c = let d = added g (goal.at.returns g c).In_ok-free in
    record { answer = sym (ap answered d.taken); after = d.after; stays = d.stays }
