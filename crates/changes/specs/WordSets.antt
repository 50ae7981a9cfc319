-- The sets of words: each is whole, and no word begins another.
use Rattle.std.proofs.Common.{◌≡◌, ℕ, ◌<◌, Bool, true, false, List, ◌++◌, length, refl, ap, arith}
use Rattle.std.specs.List.{ContainsAt as Has}
use Rattle.lexis.specs.Lang.{Vocabulary}
use Rattle.model.specs.declared.changes.Action.{Action}
use Rattle.model.specs.declared.changes.Action.TheVariants.{Removal, Addition}
use Rattle.model.specs.declared.kinds.Kind.{Kind}
use Rattle.model.specs.declared.kinds.Kind.TheVariants.{Ram, Rom, Reg}
use Rattle.changes.specs.Words.{spelt, worded, words, action_text, actions, kind_text, kinds, writes_text, verdicts}

action_whole : (a : Action) → Has (words actions) (worded a)
action_whole Addition = (0, omega arith, λ d. refl)
action_whole Removal = (1, omega arith, λ d. refl)

action_apart : (a b : Action) (u : List ℕ) → action_text b ≡ action_text a ++ u → a ≡ b
action_apart a b u e = grind arith

kind_whole : (k : Kind) → Has (words kinds) (worded k)
kind_whole Ram = (0, omega arith, λ d. refl)
kind_whole Rom = (1, omega arith, λ d. refl)
kind_whole Reg = (2, omega arith, λ d. refl)

kind_apart : (a b : Kind) (u : List ℕ) → kind_text b ≡ kind_text a ++ u → a ≡ b
kind_apart a b u e = grind arith

writes_whole : (b : Bool) → Has (words verdicts) (worded b)
writes_whole true = (0, omega arith, λ d. refl)
writes_whole false = (1, omega arith, λ d. refl)

writes_apart : (a b : Bool) (u : List ℕ) → writes_text b ≡ writes_text a ++ u → a ≡ b
writes_apart a b u e = grind arith

-- what holds of values holds of them as words
set : {T : Type 0} (text : T → List ℕ) (all : List T) → 0 < length (words all) → ((x : T) → Has (words all) (worded x)) → ((a b : T) (u : List ℕ) → text b ≡ text a ++ u → a ≡ b) → Vocabulary (spelt text) (words all)
set text all some whole apart = record { some = some; whole = λ w. whole w.0; apart = λ a b u e. ap worded (apart a.0 b.0 u e) }

pub action_set : Vocabulary (spelt action_text) (words actions)
action_set = set action_text actions (omega arith) action_whole action_apart

pub kind_set : Vocabulary (spelt kind_text) (words kinds)
kind_set = set kind_text kinds (omega arith) kind_whole kind_apart

pub writes_set : Vocabulary (spelt writes_text) (words verdicts)
writes_set = set writes_text verdicts (omega arith) writes_whole writes_apart
