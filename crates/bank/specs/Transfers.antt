-- Runs of bytes moved between a device and a buffer.
use Rattle.std.specs.Prelude.{◌≡◌, ℕ, ◌+◌, ◌-◌, ◌<◌, ◌≤◌, min, List, [], ◌∷◌, ◌++◌, length, take, drop, Some}
use Rattle.std.specs.List.{slice_get}
use Rattle.bank.specs.Devices.{Device, wrote}

-- how many of k bytes from offset o on the device has
abbrev pub reach : Device → ℕ → ℕ → ℕ
reach d o k = min k (length d.bytes - o)

-- the first k bytes of the buffer replaced by the device's from offset o on
abbrev pub filled : Device → ℕ → ℕ → List ℕ → List ℕ
filled d o k out = take k (drop o d.bytes) ++ drop k out

-- the buffer after a load from offset o on, as far as the device goes
abbrev pub loaded : Device → ℕ → List ℕ → List ℕ
loaded d o out = filled d o (reach d o (length out)) out

-- that buffer byte by byte: the device's byte where it has one, and else what stood there
pub record Fills (d : Device) (o : ℕ) (before after : List ℕ) : Type 0 where
  pub there : (i v : ℕ) → i < length before → slice_get d.bytes (o + i) ≡ Some v → slice_get after i ≡ Some v
  pub beyond : (i : ℕ) → length d.bytes ≤ o + i → slice_get after i ≡ slice_get before i

-- the devices after a write of each byte in turn, from offset o of device n on
abbrev pub stored : (ℕ → Device) → ℕ → ℕ → List ℕ → ℕ → Device
stored m n o [] = m
stored m n o (b ∷ bs) = stored (wrote m n o b) n (o + 1) bs
