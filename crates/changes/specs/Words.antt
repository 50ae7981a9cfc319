-- The words of a change line.
use Rattle.std.specs.Prelude.{ℕ, Bool, true, false, List, [], ◌∷◌, map, codes}
use Rattle.model.specs.declared.changes.Action.{Action}
use Rattle.model.specs.declared.changes.Action.TheVariants.{Removal, Addition}
use Rattle.model.specs.declared.kinds.Kind.{Kind}
use Rattle.model.specs.declared.kinds.Kind.TheVariants.{Ram, Rom, Reg}
use Rattle.changes.specs.declared.words.Word.{Word}

abbrev pub action_text : Action → List ℕ
action_text Addition = codes "+"
action_text Removal = codes "-"

abbrev pub actions : List Action
actions = Addition ∷ Removal ∷ []

abbrev pub kind_text : Kind → List ℕ
kind_text Ram = codes "ram"
kind_text Rom = codes "rom"
kind_text Reg = codes "reg"

abbrev pub kinds : List Kind
kinds = Ram ∷ Rom ∷ Reg ∷ []

abbrev pub writes_text : Bool → List ℕ
writes_text true = codes "yes"
writes_text false = codes "no"

abbrev pub verdicts : List Bool
verdicts = true ∷ false ∷ []

-- the texts of words, and words of values
abbrev pub spelt : {T : Type 0} → (T → List ℕ) → Word T → List ℕ
spelt text w = text w.0

abbrev pub worded : {T : Type 0} → T → Word T
worded x = record { 0 = x }

abbrev pub words : {T : Type 0} → List T → List (Word T)
words xs = map worded xs
