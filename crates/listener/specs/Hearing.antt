-- What a listener means, and what an addition and a removal make of it.
use Rattle.std.specs.Prelude.{◌≡◌, ℕ, ◌<◌, ◌≤◌, Bool, true, cond, not, ◌&&◌, ◌||◌, List, [], length, Ok, Err, Decides, Result, ◌≢◌, nat_lt}
use Rattle.interval.specs.Stretches.{stop, lawful, rising, holds}
use Rattle.interval.specs.Edits.{free, put}
use Rattle.model.specs.declared.kinds.Kind.{Kind}
use Rattle.model.specs.Ranges.{Range, same_range, listed, without}
use Rattle.listener.specs.declared.listener.Refused.{Refused}

-- the ranges that are held, rising by start; the kinds that are taken; how many ranges can be held
pub record Hearing : Type 0 where
  pub held : List Range
  pub kinds : Kind → Bool
  pub capacity : ℕ

-- a listener that holds nothing
abbrev pub vacant : (Kind → Bool) → ℕ → Hearing
vacant kinds capacity = record { held = []; kinds = kinds; capacity = capacity }

-- what every listener keeps: it holds no more than it can, and its ranges have an address each, end at
-- most at 2^40 and do not overlap. Of their kinds this says nothing: a filter may be set upon a listener
-- that holds what the filter does not take
pub record Kept (h : Hearing) : Type 0 where
  pub few : length h.held ≤ h.capacity
  pub rises : rising 0 h.held ≡ true

-- the addition is not refused: the range has an address and ends at most at 2^40, its kind is taken, it
-- overlaps no range that is held, and there is room for one more
abbrev pub admits : Hearing → Range → Bool
admits h r =
    lawful r.start r.length && (h.kinds r.label.kind && (free r.start (stop r) h.held
    && nat_lt (length h.held) h.capacity))

-- kinds and capacity are fixed
abbrev pub with_held : Hearing → List Range → Hearing
with_held h xs = record { held = xs; kinds = h.kinds; capacity = h.capacity }

abbrev pub added : Hearing → Range → Hearing
added h r = with_held h (cond (admits h r) (put h.held r) h.held)

abbrev pub removed : Hearing → Range → Hearing
removed h r = with_held h (without h.held r)

-- the answer of a call that was let through, or was not
abbrev pub answered : Bool → Result (Unit {0}) Refused
answered b = cond b (Ok tt) (Err (record {}))

-- two ranges of the list that share an address are the same range
abbrev pub Disjoint : List Range → Type 0
Disjoint xs = (x y : Range) (a : ℕ) → listed xs x ≡ true → listed xs y ≡ true → holds x a ≡ true → holds y a ≡ true → x ≡ y

-- no range of the list shares an address with the range
abbrev pub Clear : List Range → Range → Type 0
Clear xs r = (x : Range) (a : ℕ) → listed xs x ≡ true → holds x a ≡ true → holds r a ≢ true

-- the ranges that are held are of kinds that are taken
abbrev pub OfKinds : Hearing → Type 0
OfKinds h = (q : Range) → listed h.held q ≡ true → h.kinds q.label.kind ≡ true

-- what is held as a set: no two ranges overlap; a range with an address overlaps none just if it shares no
-- address with one; the set gains the range that is taken and no other, and loses the range that is removed
-- and no other; the removal of a range that was taken gives what was before; and where the kinds of all were
-- taken, they still are
pub record SetLaws (h : Hearing) (r : Range) : Type 0 where
  pub disjoint : Disjoint h.held
  pub clear : 0 < r.length → Decides (free r.start (stop r) h.held) (Clear h.held r)
  pub gains : (q : Range) → listed (added h r).held q ≡ ((admits h r && same_range r q) || listed h.held q)
  pub loses : (q : Range) → listed (removed h r).held q ≡ (not (same_range r q) && listed h.held q)
  pub back : admits h r ≡ true → removed (added h r) r ≡ h
  pub kinds_added : OfKinds h → OfKinds (added h r)
  pub kinds_removed : OfKinds h → OfKinds (removed h r)
