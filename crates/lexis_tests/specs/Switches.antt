-- The words of a switch.
use Rattle.std.specs.Prelude.{ℕ, List, [], ◌∷◌, codes}
use Rattle.lexis_tests.specs.declared.switch.Switch.{Switch}
use Rattle.lexis_tests.specs.declared.switch.Switch.TheVariants.{On, Off}

abbrev pub switch_word : Switch → List ℕ
switch_word On = codes "on)"
switch_word Off = codes "off)"

abbrev pub switches : List Switch
switches = On ∷ Off ∷ []
