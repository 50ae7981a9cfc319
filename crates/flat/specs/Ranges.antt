-- Lists of ranges of which none runs on into the next: the test that a map carries with it.
use Rattle.std.specs.Prelude.{Bool, true, not, ◌&&◌, List, [], ◌∷◌}
use Rattle.interval.specs.Edits.{runs_on}
use Rattle.model.specs.Places.{moved, same_place}
use Rattle.model.specs.Ranges.{Range}

-- no range runs on into the next
abbrev pub settled : List Range → Bool
settled [] = true
settled (x ∷ []) = true
settled (x ∷ y ∷ ys) = not (runs_on moved same_place x y) && settled (y ∷ ys)
