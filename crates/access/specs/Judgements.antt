-- What an access is refused for, address by address.
use Rattle.std.specs.Prelude.{◌≡◌, ℕ, ◌+◌, ◌<◌, ◌≤◌, Bool, true, false, Some, None, Ok, Err, Option, Result}
use Rattle.model.specs.declared.faults.Fault.{Fault}
use Rattle.model.specs.declared.faults.Fault.TheVariants.{BadLength, NoPlace, NoWrites}
use Rattle.model.specs.declared.places.Place.{Place}

-- the address has a place, and if it is to be written, one that lets writes through
pub record Reached (writing : Bool) (shows : ℕ → Option Place) (a : ℕ) : Type 0 where
  pub place : Place
  pub there : shows a ≡ Some place
  pub lets : writing ≡ true → place.writes ≡ true

-- all addresses from a up to e are reached
abbrev pub AllReached : Bool → (ℕ → Option Place) → ℕ → ℕ → Type 0
AllReached writing shows a e = (x : ℕ) → a ≤ x → x < e → Reached writing shows x

-- x is the lowest address of n from a on that is not reached
pub record Lowest (writing : Bool) (shows : ℕ → Option Place) (a n x : ℕ) : Type 0 where
  pub from : a ≤ x
  pub within : x < a + n
  pub before : AllReached writing shows a x

-- of n addresses from a on: they are few enough, and all are reached; or a count that is none; or the
-- lowest that is not reached has no place, or has one that lets no write through
pub data Judged (writing : Bool) (shows : ℕ → Option Place) (a n : ℕ) : Result (Unit {0}) Fault → Type 0 where
  accepted : 1 ≤ n → n ≤ 4096 → AllReached writing shows a (a + n) → Judged writing shows a n (Ok tt)
  none : n ≡ 0 → Judged writing shows a n (Err (BadLength n))
  many : 4096 < n → Judged writing shows a n (Err (BadLength n))
  nowhere : (x : ℕ) → 1 ≤ n → n ≤ 4096 → Lowest writing shows a n x → shows x ≡ None → Judged writing shows a n (Err (NoPlace x))
  shut : (x : ℕ) (p : Place) → 1 ≤ n → n ≤ 4096 → writing ≡ true → Lowest writing shows a n x → shows x ≡ Some p → p.writes ≡ false → Judged writing shows a n (Err (NoWrites x))
