-- What a bank answers to a write.
use Rattle.std.specs.Prelude.{ℕ, cond, length, Ok, Err, Result, nat_lt}
use Rattle.bank.specs.Devices.{Device}
use Rattle.bank.specs.declared.bank.PastEnd.{PastEnd}

-- refused just where the offset is past n bytes
abbrev pub within : ℕ → ℕ → Result (Unit {0}) PastEnd
within n o = cond (nat_lt o n) (Ok tt) (Err (record {}))

-- refused just where the offset is past the bytes
abbrev pub writing : Device → ℕ → Result (Unit {0}) PastEnd
writing d o = within (length d.bytes) o
