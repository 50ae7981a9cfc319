-- A touch mark as a label.
use Rattle.std.specs.Prelude.{ℕ, Bool, true, false}
use Rattle.model.specs.declared.touches.Touch.{Touch}
use Rattle.model.specs.declared.touches.Touch.TheVariants.{Read, Written, Both}

-- a mark is the same at every address of its stretch
abbrev pub kept_mark : Touch → ℕ → Touch
kept_mark t i = t

abbrev pub same_touch : Touch → Touch → Bool
same_touch Read Read = true
same_touch Read Written = false
same_touch Read Both = false
same_touch Written Read = false
same_touch Written Written = true
same_touch Written Both = false
same_touch Both Read = false
same_touch Both Written = false
same_touch Both Both = true
