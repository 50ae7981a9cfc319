-- Sets of ranges by their members, of any ranges: overlapping or not, in no order.
use Rattle.std.specs.Prelude.{◌≡◌, Bool, true, false, cond, List, [], ◌∷◌}
use Rattle.model.specs.declared.changes.Change.{Change}
use Rattle.model.specs.declared.changes.Change.TheVariants.{Removal, Addition}
use Rattle.model.specs.Ranges.{Range, same_range, listed}

-- whether a range is in the set
abbrev pub Set : Type 0
Set = Range → Bool

-- a removal takes its range out, held or not, and an addition puts it in
abbrev pub altered : Change → Set → Set
altered (Removal x) s r = cond (same_range x r) false (s r)
altered (Addition x) s r = cond (same_range x r) true (s r)

-- the entries in turn
abbrev pub all_altered : List Change → Set → Set
all_altered [] s = s
all_altered (c ∷ cs) s = all_altered cs (altered c s)

-- the entries turn the set of the ranges xs into that of the ranges ys
abbrev pub Turns : List Change → List Range → List Range → Type 0
Turns cs xs ys = (r : Range) → all_altered cs (listed xs) r ≡ listed ys r
