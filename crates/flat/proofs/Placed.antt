-- A place as a label.
use Rattle.std.proofs.Common.{◌≡◌, ℕ, ◌+◌, rules}
use Rattle.sweep.proofs.Before.{Labels}
use Rattle.model.specs.declared.places.Place.{Place}
use Rattle.model.specs.Places.{moved, same_place}
use Rattle.model.specs.SamePlace.{places}

moved_zero : (p : Place) → moved p 0 ≡ p
moved_zero p = search rules

moved_sum : (p : Place) (i j : ℕ) → moved (moved p i) j ≡ moved p (i + j)
moved_sum p i j = search rules

pub place_laws : Labels moved same_place
place_laws = record { zero = moved_zero; sum = moved_sum; exact = places }
