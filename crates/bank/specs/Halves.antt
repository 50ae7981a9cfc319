-- The numbers of a pair's devices.
use Rattle.std.specs.Prelude.{ℕ, ◌+◌, ◌*◌}
use Rattle.bank.specs.declared.pair.Half.{Half}
use Rattle.bank.specs.declared.pair.Half.TheVariants.{First, Second}

-- the number in the pair
abbrev pub number_of : Half → ℕ
number_of (First n) = 2 * n
number_of (Second n) = 2 * n + 1
