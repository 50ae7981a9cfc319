use Rattle.std.proofs.Common.{◌≡◌, ◌+◌, ◌<◌, ◌≤◌, false, length, take, set, sym, ap, ◌∙◌, arith, length-set}
use Rattle.std.proofs.lemmas.List.{length-take-le}
use Rattle.tree.specs.Listed.{listed}
use Rattle.tree.specs.Order.{has_child, once, sorted, inserted}
use Rattle.tree.proofs.Orders.{all_stay, has_without, inserted_split, once_inserted, opened, sorted_inserted}
use Rattle.tree.proofs.order.SearchOrder.insert.Goals as goal
use Rattle.tree.proofs.order.SearchOrder.insert.Goals.{After-copy_within}

pub returns-then-count-eq-ROWS-clause-full : goal.returns-then-count-eq-ROWS-clause-full
returns-then-count-eq-ROWS-clause-full c =
    let o = c.args.self.now in
    let fits : o.count ≤ length o.entries = let rows = o.rows in let fits = o.fits in omega arith in
    let most : length (listed o) ≤ 63 = let long = length-take-le o.count o.entries fits in let fits = o.fits in omega arith in
    let p = c.take_out.new.self in
    let left : length (listed p) ≡ 63 = length-take-le p.count p.entries (let rows = p.rows in let fits = p.fits in omega arith) ∙ c.if-count-eq-ROWS.true in
    c.take_out.ensures ∙ all_stay c.args.new.child (listed o) 63 most (sym (ap length c.take_out.ensures) ∙ left)

-- the first entries, with the new one in its gap
put : (c : After-copy_within) → take (c.take_out.new.self.count + 1) (set c.copy_within.new.self c.rank-at.result c.args.new) ≡ inserted c.args.new (listed c.take_out.new.self)
put c =
    let o = c.take_out.new.self in
    let lt : o.count < length o.entries = let fits = o.fits in let rows = o.rows in let ne = c.if-count-eq-ROWS.false in omega arith in
    ap (λ l. take (o.count + 1) (set l c.rank-at.result c.args.new)) c.copy_within.ensures.after
    ∙ opened o.entries o.count c.rank-at.result c.args.new c.rank-at.ensures.within lt
    ∙ sym (inserted_split c.args.new (listed o) c.rank-at.result c.rank-at.ensures.is)

pub invariant_of-self : goal.invariant_of-self
invariant_of-self c =
    let o = c.take_out.new.self in
    let none : has_child c.args.new.child (listed o) ≡ false = ap (has_child c.args.new.child) c.take_out.ensures ∙ has_without c.args.new.child (listed c.args.self.now) in
    record {
      rows = length-set _ _ _ ∙ c.copy_within.ensures.len ∙ o.rows;
      fits = let fits = o.fits in let ne = c.if-count-eq-ROWS.false in omega arith;
      single = ap once (put (goal.at.invariant_of-self c).After-copy_within) ∙ once_inserted c.args.new (listed o) none o.single;
      ranked = ap sorted (put (goal.at.invariant_of-self c).After-copy_within) ∙ sorted_inserted c.args.new (listed o) o.ranked;
    }

pub returns-clause-ok : goal.returns-clause-ok
returns-clause-ok c = put (goal.at.returns-clause-ok c).After-copy_within ∙ ap (inserted c.args.new) c.take_out.ensures
