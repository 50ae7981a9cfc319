use Rattle.std.proofs.Common.{◌≡◌, ◌+◌, ◌^◌, ◌<◌, [], ◌++◌, length, take, sym, ap}
use Rattle.interval.specs.Edits.{join}
use Rattle.interval.proofs.Joining.{carried, joined_merge, joined_keep, joined_count, joined_end, merged_fits}
use Rattle.interval.proofs.Standing.{join_stands}
use Rattle.interval.proofs.joins.join_live.Goals as goal
use Rattle.interval.proofs.joins.join_live.Goals.{then-runs_onto, else-runs_onto}

pub loop-k-preserved : goal.loop-k-preserved
loop-k-preserved g c =
    elim c.if-runs_onto.branch [
      | then-runs_onto w ↦ carried g.L.Label.advanced g.L.SameLabel.matches c.args.table.now c.args.used _ _ _ _ _ _ _ w.done-is w.last-is w.table-is
          (joined_merge g.L.Label.advanced g.L.SameLabel.matches c.args.table.now c.args.used c.requires _ _ c.loop-k.last c.loop-k.table c.loop-k.auto.table c.loop-k.invariant c.loop-k-test.true c.index-table-k.result c.index-table-k.is (sym w.if-runs_onto.ensures))
      | else-runs_onto w ↦ carried g.L.Label.advanced g.L.SameLabel.matches c.args.table.now c.args.used _ _ _ _ _ _ _ w.done-is w.last-is w.table-is
          (joined_keep g.L.Label.advanced g.L.SameLabel.matches c.args.table.now c.args.used c.requires _ _ c.loop-k.last c.loop-k.table c.loop-k.auto.table c.loop-k.invariant c.loop-k-test.true c.index-table-k.result c.index-table-k.is (sym w.if-runs_onto.ensures))
    ]

pub overflow_add-last : goal.overflow_add-last
overflow_add-last g c =
    let sum : c.loop-k.last.length + c.index-table-k.result.length < 2 ^ 64 = merged_fits g.L.Label.advanced g.L.SameLabel.matches c.args.table.now c.args.used c.requires _ _ c.loop-k.last c.loop-k.table c.loop-k.auto.table c.loop-k.invariant c.loop-k-test.true c.index-table-k.result c.index-table-k.is in
    record { fits = sum }

pub returns-then-used-eq0-clause-stands : goal.returns-then-used-eq0-clause-stands
returns-then-used-eq0-clause-stands g c =
    let adv = g.L.Label.advanced in
    let same = g.L.SameLabel.matches in
    let xs = c.args.table.now in
    let none : join adv same (take c.args.used xs) ≡ [] = ap (λ n. join adv same (take n xs)) c.if-used-eq0.true in
    join_stands adv same g.met.L.Label.zero g.met.L.Label.sum g.met.L.SameLabel.exact xs xs c.args.used 0 c.requires (sym (ap length none)) (sym (ap (λ z. z ++ xs) none))

pub returns-clause-after : goal.returns-clause-after
returns-clause-after g c = joined_end g.L.Label.advanced g.L.SameLabel.matches c.args.table.now c.args.used c.requires _ _ c.loop-k.last c.loop-k.table c.loop-k.auto.table c.loop-k.invariant c.loop-k-test.false

pub returns-clause-stands : goal.returns-clause-stands
returns-clause-stands g c =
    let adv = g.L.Label.advanced in
    let same = g.L.SameLabel.matches in
    let xs = c.args.table.now in
    let n = joined_count adv same xs c.args.used c.requires _ _ c.loop-k.last c.loop-k.table c.loop-k.auto.table c.loop-k.invariant c.loop-k-test.false in
    join_stands adv same g.met.L.Label.zero g.met.L.Label.sum g.met.L.SameLabel.exact xs _ c.args.used _ c.requires n (returns-clause-after g c)
