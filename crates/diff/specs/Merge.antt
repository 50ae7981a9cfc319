-- One walk along two maps.
use Rattle.std.specs.Prelude.{Bool, false, List, [], ◌∷◌}
use Rattle.model.specs.Ranges.{Range, same_range}
use Rattle.diff.specs.ChangeLists.{ranges, missing}
use Rattle.diff.specs.declared.merge.Missing.{Missing}

-- what the walk has still to give
abbrev pub left_over : Missing → List Range
left_over m = missing (ranges m.left) (ranges m.others)

-- the list begins with the range
abbrev pub begins : List Range → Range → Bool
begins [] r = false
begins (x ∷ xs) r = same_range x r
