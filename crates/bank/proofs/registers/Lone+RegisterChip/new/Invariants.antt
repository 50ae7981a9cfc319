use Rattle.std.proofs.Common.{◌≡◌, ℕ, ◌<◌, length, get_or}
use Rattle.bank.specs.declared.register.Register.{Register}
use Rattle.bank.proofs.Clears.{Clear}
use Rattle.bank.proofs.registers.Lone+RegisterChip.new.Given as goal

abbrev pub invariant-loop-place : goal.invariant-loop-place
invariant-loop-place l = (length l.registers ≡ 256) × ((d : Register) (j : ℕ) → j < l.place → Clear (get_or l.registers j d) (get_or l.fn.masks j 0))
