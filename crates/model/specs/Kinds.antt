-- The kinds of devices.
use Rattle.std.specs.Prelude.{Bool, true, false}
use Rattle.model.specs.declared.kinds.Kind.{Kind}
use Rattle.model.specs.declared.kinds.Kind.TheVariants.{Ram, Rom, Reg}

abbrev pub same_kind : Kind → Kind → Bool
same_kind Ram Ram = true
same_kind Ram Rom = false
same_kind Ram Reg = false
same_kind Rom Ram = false
same_kind Rom Rom = true
same_kind Rom Reg = false
same_kind Reg Ram = false
same_kind Reg Rom = false
same_kind Reg Reg = true
