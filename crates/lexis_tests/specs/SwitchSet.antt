-- The words of a switch are a closed set.
use Rattle.std.proofs.Common.{◌≡◌, ℕ, List, ◌++◌, refl, arith}
use Rattle.std.specs.List.{ContainsAt as Has}
use Rattle.lexis.specs.Lang.{Vocabulary}
use Rattle.lexis_tests.specs.declared.switch.Switch.{Switch}
use Rattle.lexis_tests.specs.declared.switch.Switch.TheVariants.{On, Off}
use Rattle.lexis_tests.specs.Switches.{switch_word, switches}

whole : (k : Switch) → Has switches k
whole On = (0, omega arith, λ d. refl)
whole Off = (1, omega arith, λ d. refl)

apart : (a b : Switch) (u : List ℕ) → switch_word b ≡ switch_word a ++ u → a ≡ b
apart a b u e = grind arith

pub switch_set : Vocabulary switch_word switches
switch_set = record { some = omega arith; whole = whole; apart = apart }
