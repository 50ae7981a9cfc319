-- An offset as a label, and what a row shows.
use Rattle.std.specs.Prelude.{ℕ, ◌+◌, ◌-◌, ◌%◌, ◌^◌, Bool, cond, Some, None, Option, ◌==◌}
use Rattle.std.proofs.Common.{mod-lt, lit<}
use Rattle.interval.specs.declared.stretches.Stretch.{Stretch}
use Rattle.interval.specs.Stretches.{holds}
use Rattle.interval_tests.specs.declared.offsets.Offset.{Offset}

abbrev pub moved : Offset → ℕ → Offset
moved x i = record { value = (x.value + i) % 2 ^ 64; fits = mod-lt (x.value + i) (lit< tt) }

abbrev pub alike : Offset → Offset → Bool
alike x y = x.value == y.value

-- the labels of the stretch at its own addresses
abbrev pub shown : Stretch Offset → ℕ → Option Offset
shown s a = cond (holds s a) (Some (moved s.label (a - s.start))) None
