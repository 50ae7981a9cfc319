-- Devices, and what a write leaves of them. A bank means a function from device numbers to devices.
use Rattle.std.specs.Prelude.{◌≡◌, ℕ, ◌+◌, ◌-◌, ◌*◌, ◌/◌, ◌%◌, ◌<◌, ◌≤◌, cond, List, [], length, ◌==◌, bit_and, bit_or, slice_index, slice_set}
use Rattle.model.specs.declared.kinds.Kind.{Kind}
use Rattle.model.specs.declared.kinds.Kind.TheVariants.{Rom}

-- the masks say of each byte which of its bits a write alters
pub record Device : Type 0 where
  pub kind : Kind
  pub bytes : List ℕ
  pub masks : List ℕ

-- what a bank has under a number that it gives no device
abbrev pub absent : Device
absent = record { kind = Rom; bytes = []; masks = [] }

-- what every device of every bank keeps: at most 8,192 bytes, a mask for each, all of 8 bits
pub record Sound (d : Device) : Type 0 where
  pub short : length d.bytes ≤ 8192
  pub level : length d.masks ≡ length d.bytes
  pub small : (i : ℕ) → slice_index d.bytes i < 256
  pub narrow : (i : ℕ) → slice_index d.masks i < 256

-- the byte v after a write of b under the mask k: (v and not k) or (b and k)
abbrev pub masked : ℕ → ℕ → ℕ → ℕ
masked v k b = bit_or (bit_and v (255 - k)) (bit_and b k)

-- the device after a write of b at offset o; it stays where o is past its bytes
abbrev pub put : Device → ℕ → ℕ → Device
put d o b = record {
  kind = d.kind;
  bytes = slice_set d.bytes o (masked (slice_index d.bytes o) (slice_index d.masks o) b);
  masks = d.masks;
}

-- all devices after a write of b at offset o of device n
abbrev pub wrote : (ℕ → Device) → ℕ → ℕ → ℕ → ℕ → Device
wrote m n o b q = cond (q == n) (put (m q) o b) (m q)

-- a bank with the one device d, under number 0
abbrev pub single : Device → ℕ → Device
single d q = cond (q == 0) d absent

-- two banks as one: the even numbers are the first's, and the odd ones the second's
abbrev pub paired : (ℕ → Device) → (ℕ → Device) → ℕ → Device
paired f g q = cond (q % 2 == 0) (f (q / 2)) (g (q / 2))

-- h has device n of f as its device 2n, and device n of g as its device 2n + 1
pub record Shares (f g h : ℕ → Device) : Type 0 where
  pub even : (n : ℕ) → h (2 * n) ≡ f n
  pub odd : (n : ℕ) → h (2 * n + 1) ≡ g n
