use Rattle.flat.proofs.Sighting.{sees_end, sees_above, sees_here, reaches}
use Rattle.flat.proofs.overlays.sight_among.Goals as goal

pub returns-in_default : goal.returns-in_default
returns-in_default c = rw c.nothing.ensures
    (sees_end c.args.ranges.now.live.now c.args.ranges.now.rises c.args.address c.args.limit _ c.rest_from.ensures c.in_default.ensures.value)

pub returns-then-address-range : goal.returns-then-address-range
returns-then-address-range c = rw c.nothing-then-address-range.ensures
    (sees_above c.args.ranges.now.live.now c.args.ranges.now.rises c.args.address c.args.limit _ c.rest_from.ensures _ c.in-Some.ensures.value _ c.if-address-range.true c.min.ensures)

pub overflow_sub-range-2 : goal.overflow_sub-range-2
overflow_sub-range-2 c =
    reaches c.args.ranges.now.live.now c.args.ranges.now.rises c.args.address c.args.limit _ c.rest_from.ensures _ c.in-Some.ensures.value c.if-address-range.false

pub returns : goal.returns
returns c =
    sees_here c.args.ranges.now.live.now c.args.ranges.now.rises c.args.address c.args.limit _ c.rest_from.ensures _ c.in-Some.ensures.value _ _ c.if-address-range.false c.advance.ensures.moves c.min-2.ensures
