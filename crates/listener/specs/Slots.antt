-- Ranges in slots.
use Rattle.std.specs.Prelude.{◌≡◌, ℕ, suc, ◌<◌, Bool, true, false, cond, ◌&&◌, List, [], ◌∷◌, is_some, Some, None, Option}
use Rattle.std.specs.Option.{option_map}
use Rattle.interval.specs.Stretches.{stop, lawful}
use Rattle.interval.specs.Edits.{free, put}
use Rattle.model.specs.declared.kinds.Kind.{Kind}
use Rattle.model.specs.declared.kinds.Kind.TheVariants.{Ram, Rom, Reg}
use Rattle.model.specs.Ranges.{Range, same_range, listed}
use Rattle.listener.specs.Hearing.{Hearing}

-- the ranges of all slots, rising by start
abbrev pub held_in : List (Option Range) → List Range
held_in [] = []
held_in (None ∷ s) = held_in s
held_in (Some x ∷ s) = put (held_in s) x

-- each range has an address and ends at most at 2^40, and no two overlap
abbrev pub lone : List (Option Range) → Bool
lone [] = true
lone (None ∷ s) = lone s
lone (Some x ∷ s) = lawful x.start x.length && (free x.start (stop x) (held_in s) && lone s)

-- the number of the slot that has the range, the first being 0
abbrev pub slot_in : List (Option Range) → Range → Option ℕ
slot_in [] r = None
slot_in (None ∷ s) r = option_map suc (slot_in s r)
slot_in (Some x ∷ s) r = cond (same_range x r) (Some 0) (option_map suc (slot_in s r))

-- the number of the first free slot
abbrev pub free_in : List (Option Range) → Option ℕ
free_in [] = None
free_in (None ∷ s) = Some 0
free_in (Some x ∷ s) = option_map suc (free_in s)

-- what slots mean as a listener
abbrev pub table : (Kind → Bool) → ℕ → List (Option Range) → Hearing
table kinds capacity slots = record { held = held_in slots; kinds = kinds; capacity = capacity }

abbrev pub every_kind : Kind → Bool
every_kind k = true

abbrev pub memory_kind : Kind → Bool
memory_kind Ram = true
memory_kind Rom = true
memory_kind Reg = false

-- of n slots: the range has a slot just if it is held; its number is below n; and no other range has the
-- same slot
pub record Seated (n : ℕ) (slots : List (Option Range)) (r : Range) : Type 0 where
  pub sits : is_some (slot_in slots r) ≡ listed (held_in slots) r
  pub within : (i : ℕ) → slot_in slots r ≡ Some i → i < n
  pub alone : (q : Range) (i : ℕ) → slot_in slots r ≡ Some i → slot_in slots q ≡ Some i → q ≡ r

-- a range that was held and still is has its old slot
abbrev pub Stays : List (Option Range) → List (Option Range) → Type 0
Stays before after = (q : Range) → listed (held_in before) q ≡ true → listed (held_in after) q ≡ true → slot_in after q ≡ slot_in before q
