use Rattle.std.proofs.Common.{◌≡◌, true, sym, ◌∙◌, subst, rules}
use Rattle.interval.specs.Stretches.{rising}
use Rattle.diff.proofs.Members.{rising_drop}
use Rattle.diff.proofs.Walking.{tail_rises, turn_gives, turn_passes}
use Rattle.diff.proofs.merge.MissingIterator.next.Goals as goal

pub invariant_of-self : goal.invariant_of-self
invariant_of-self c = record { rises = tail_rises _ _ _ c.in-Some.ensures.cases.0 c.loop-range.self.left.rises }

pub invariant_of-self-in-Some : goal.invariant_of-self-in-Some
invariant_of-self-in-Some c = record { rises = subst (λ l. rising 0 l ≡ true) (sym c.from_start.ensures) (rising_drop _ 0 c.loop-range.self.others.live.now c.loop-range.self.others.rises) }

pub returns-then-not-starts_with-clause-steps : goal.returns-then-not-starts_with-clause-steps
returns-then-not-starts_with-clause-steps c = sym c.loop-range.invariant ∙ turn_gives _ _ _ _ _ c.in-Some.ensures.cases.0 c.loop-range.self.left.rises c.loop-range.self.others.rises c.from_start.ensures (sym c.if-not-starts_with.ensures)

pub returns-then-not-starts_with-clause-goes : goal.returns-then-not-starts_with-clause-goes
returns-then-not-starts_with-clause-goes c = let steps = returns-then-not-starts_with-clause-steps c in search rules

pub loop-range-preserved : goal.loop-range-preserved
loop-range-preserved c = sym (turn_passes _ _ _ _ _ c.in-Some.ensures.cases.0 c.loop-range.self.left.rises c.loop-range.self.others.rises c.from_start.ensures (sym c.if-not-starts_with.ensures)) ∙ c.loop-range.invariant
