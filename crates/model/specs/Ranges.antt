-- Ranges, and sets of them: a set of ranges that do not overlap is written as a list rising by start.
use Rattle.std.specs.Prelude.{Bool, false, cond, ◌||◌, List, [], ◌∷◌}
use Rattle.interval.specs.Stretches.{same_stretch}
use Rattle.interval.specs.declared.stretches.Stretch.{Stretch}
use Rattle.model.specs.declared.places.Place.{Place}
use Rattle.model.specs.Places.{same_place}

abbrev pub Range : Type 0
Range = Stretch Place

-- equal in all seven parts
abbrev pub same_range : Range → Range → Bool
same_range r s = same_stretch same_place r s

abbrev pub listed : List Range → Range → Bool
listed [] r = false
listed (x ∷ xs) r = same_range x r || listed xs r

-- the list without the range; the list itself where it lacks the range
abbrev pub without : List Range → Range → List Range
without [] r = []
without (x ∷ xs) r = cond (same_range x r) xs (x ∷ without xs r)
