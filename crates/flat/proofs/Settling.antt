-- The test whether no range runs on into the next.
use Rattle.std.proofs.Common.{◌≡◌, true, not, List, [], ◌∷◌, refl}
use Rattle.std.proofs.lemmas.Bool.{and_parts, and_from, not-true, not_from_false}
use Rattle.interval.specs.Edits.{runs_on}
use Rattle.interval.specs.Laws.{Settled}
use Rattle.model.specs.Places.{moved, same_place}
use Rattle.model.specs.Ranges.{Range}
use Rattle.flat.specs.Ranges.{settled}

pub settled_from : (xs : List Range) → Settled moved same_place xs → settled xs ≡ true
settled_from [] s = refl
settled_from (x ∷ []) s = refl
settled_from (x ∷ y ∷ ys) s = and_from _ _ (not_from_false _ s.0) (settled_from (y ∷ ys) s.1)

pub settled_true : (xs : List Range) → settled xs ≡ true → Settled moved same_place xs
settled_true [] e = tt
settled_true (x ∷ []) e = tt
settled_true (x ∷ y ∷ ys) e = let p = and_parts (not (runs_on moved same_place x y)) _ e in (not-true _ p.0, settled_true (y ∷ ys) p.1)
