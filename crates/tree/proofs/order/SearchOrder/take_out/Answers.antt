use Rattle.std.proofs.Common.{◌≡◌, ◌-◌, ◌<◌, ◌≤◌, length, take, sym, ap, ◌∙◌, arith}
use Rattle.std.proofs.lemmas.List.{length-take-le}
use Rattle.tree.specs.Listed.{listed}
use Rattle.tree.specs.Order.{once, sorted, without_child}
use Rattle.tree.proofs.Orders.{closed, once_without, place_found, place_none, sorted_without, without_split}
use Rattle.tree.proofs.order.SearchOrder.take_out.Goals as goal
use Rattle.tree.proofs.order.SearchOrder.take_out.Goals.{After-copy_within}

-- the first entries, after the gap has closed
left : (c : After-copy_within) → take (c.args.self.now.count - 1) c.copy_within.new.self ≡ without_child c.args.child (listed c.args.self.now)
left c =
    let o = c.args.self.now in
    let found = place_found c.args.child (listed o) c.in-Some.at (sym c.in-Some.is ∙ c.place_of.ensures) in
    let fits : o.count ≤ length o.entries = let rows = o.rows in let fits = o.fits in omega arith in
    let long = length-take-le o.count o.entries fits in
    let lt : c.in-Some.at < o.count = omega (arith, found.0) in
    ap (take (o.count - 1)) c.copy_within.ensures.after ∙ closed o.entries o.count c.in-Some.at lt fits ∙ sym (without_split c.args.child (listed o) c.in-Some.at found.1 o.single)

pub invariant_of-self : goal.invariant_of-self
invariant_of-self c =
    let o = c.args.self.now in
    record {
      rows = c.copy_within.ensures.len ∙ o.rows;
      fits = let fits = o.fits in omega arith;
      single = ap once (left c) ∙ once_without c.args.child (listed o) o.single;
      ranked = ap sorted (left c) ∙ sorted_without c.args.child (listed o) o.ranked;
    }

pub returns-in-Some : goal.returns-in-Some
returns-in-Some c = left (goal.at.returns-in-Some c).After-copy_within

pub returns-in_default : goal.returns-in_default
returns-in_default c = sym (place_none c.args.child (listed c.args.self.now) (sym c.place_of.ensures ∙ c.in_default.is) c.args.self.now.single)
