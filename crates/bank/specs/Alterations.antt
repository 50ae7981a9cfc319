-- What writes do, byte by byte: a byte that is written is mixed with the new one under its mask, and
-- all else stays.
use Rattle.std.specs.Prelude.{◌≡◌, ℕ, ◌+◌, ◌<◌, ◌≤◌, List, length, Some, ◌≢◌}
use Rattle.std.specs.List.{slice_get}
use Rattle.bank.specs.Devices.{Device, masked}

-- byte o of device n and byte p of device q are two
abbrev pub Apart : ℕ → ℕ → ℕ → ℕ → Type 0
Apart n o q p = n ≡ q → o ≢ p

-- no kind, length or mask has changed
pub record ShapeKept (before after : ℕ → Device) : Type 0 where
  pub kinds : (q : ℕ) → (after q).kind ≡ (before q).kind
  pub lengths : (q : ℕ) → length (after q).bytes ≡ length (before q).bytes
  pub masks : (q : ℕ) → (after q).masks ≡ (before q).masks

-- what a write of b at offset o of device n alters: where the byte v stood under the mask k, there
-- stands their mix, and every other byte of every device is as before
pub record Alters (before after : ℕ → Device) (n o b : ℕ) : Type 0 where
  pub there : (v k : ℕ) → slice_get (before n).bytes o ≡ Some v → slice_get (before n).masks o ≡ Some k → slice_get (after n).bytes o ≡ Some (masked v k b)
  pub elsewhere : (q p : ℕ) → Apart n o q p → slice_get (after q).bytes p ≡ slice_get (before q).bytes p
  pub shape : ShapeKept before after

-- the same of writes of the bytes bs, one after the other from offset o of device n on
pub record AltersRun (before after : ℕ → Device) (n o : ℕ) (bs : List ℕ) : Type 0 where
  pub there : (i b v k : ℕ) → slice_get bs i ≡ Some b → slice_get (before n).bytes (o + i) ≡ Some v → slice_get (before n).masks (o + i) ≡ Some k → slice_get (after n).bytes (o + i) ≡ Some (masked v k b)
  pub elsewhere : (q p : ℕ) → (n ≡ q → o ≤ p → p < o + length bs → ⊥) → slice_get (after q).bytes p ≡ slice_get (before q).bytes p
  pub shape : ShapeKept before after
