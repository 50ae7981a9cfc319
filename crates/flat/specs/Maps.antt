-- The flat map of a tree.
use Rattle.std.specs.Prelude.{cond, List, length, Ok, Err, Result, nat_le}
use Rattle.interval.specs.Maps.{live}
use Rattle.sweep.specs.Maps.{stretches}
use Rattle.model.specs.declared.faults.Fault.{Fault}
use Rattle.model.specs.declared.faults.Fault.TheVariants.{MapFull}
use Rattle.model.specs.Places.{moved, same_place}
use Rattle.model.specs.Ranges.{Range}
use Rattle.tree.specs.Model.{Model}
use Rattle.tree.specs.Search.{search, root_size}
use Rattle.flat.specs.declared.flat_map.FlatMap.{FlatMap}

-- the rising list of ranges that gives every guest address its place or none
unfoldable pub map_of : Model → List Range
map_of t = stretches moved same_place (search t) 0 (root_size t)

-- the ranges of a map
abbrev pub ranges_of : FlatMap → List Range
ranges_of m = live m.map

-- a list of ranges as a map, which has at most 256
abbrev pub fitting : List Range → Result (List Range) Fault
fitting xs = cond (nat_le (length xs) 256) (Ok xs) (Err MapFull)

-- the answer of a call that makes a map, with its ranges
abbrev pub told : Result FlatMap Fault → Result (List Range) Fault
told (Ok m) = Ok (ranges_of m)
told (Err f) = Err f
