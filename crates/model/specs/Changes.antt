-- A change is an action and a range.
use Rattle.model.specs.declared.changes.Action.{Action}
use Rattle.model.specs.declared.changes.Action.TheVariants as action
use Rattle.model.specs.declared.changes.Change.{Change}
use Rattle.model.specs.declared.changes.Change.TheVariants.{Removal, Addition}
use Rattle.model.specs.Ranges.{Range}

abbrev pub entry : Action → Range → Change
entry action.Removal r = Removal r
entry action.Addition r = Addition r

abbrev pub action_of : Change → Action
action_of (Removal r) = action.Removal
action_of (Addition r) = action.Addition

abbrev pub range_of : Change → Range
range_of (Removal r) = r
range_of (Addition r) = r
