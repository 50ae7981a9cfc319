-- Rows of refusals: of the rows of a call, in the order of their numbers, the first that applies decides.
use Rattle.std.specs.Prelude.{Bool, cond, List, [], ◌∷◌, Some, None, Ok, Err, Option, Result}
use Rattle.model.specs.declared.faults.Fault.{Fault}

-- whether the row applies, and the fault that it answers then
abbrev pub Row : Type 0
Row = Bool × Fault

abbrev pub first_applying : List Row → Option Fault
first_applying [] = None
first_applying (r ∷ rs) = cond r.0 (Some r.1) (first_applying rs)

-- what a call answers that gives nothing but whether it was refused
abbrev pub told : Option Fault → Result (Unit {0}) Fault
told None = Ok tt
told (Some f) = Err f

-- what a call leaves: `after`, or what was before where it is refused
abbrev pub unless : {X : Type 0} → Option Fault → X → X → X
unless None after before = after
unless (Some f) after before = before
