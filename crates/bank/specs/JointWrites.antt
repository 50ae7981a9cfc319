-- Two writes as one: both are done, or neither.
use Rattle.std.specs.Prelude.{ℕ, Bool, cond, ◌&&◌, length, Ok, Err, Result, nat_lt}
use Rattle.bank.specs.Alterations.{Apart}
use Rattle.bank.specs.Devices.{Device, wrote}
use Rattle.bank.specs.declared.bank.PastEnd.{PastEnd}
use Rattle.bank.specs.declared.joint.ByteWrite.{ByteWrite}

-- the writes name another device or another offset
abbrev pub TwoBytes : ByteWrite → ByteWrite → Type 0
TwoBytes v w = Apart v.device v.offset w.device w.offset

-- neither is past its device's bytes
abbrev pub both_there : (ℕ → Device) → ByteWrite → ByteWrite → Bool
both_there m v w =
    nat_lt v.offset (length (m v.device).bytes) && nat_lt w.offset (length (m w.device).bytes)

-- refused just where one of them is past its bytes
abbrev pub joint_answer : (ℕ → Device) → ByteWrite → ByteWrite → Result (Unit {0}) PastEnd
joint_answer m v w = cond (both_there m v w) (Ok tt) (Err (record {}))

abbrev pub wrote_byte : (ℕ → Device) → ByteWrite → ℕ → Device
wrote_byte m w = wrote m w.device w.offset w.byte

-- the devices after both, v first, or as they were where the two are refused
abbrev pub wrote_both : (ℕ → Device) → ByteWrite → ByteWrite → ℕ → Device
wrote_both m v w = cond (both_there m v w) (wrote_byte (wrote_byte m v) w) m
