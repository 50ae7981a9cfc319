-- Every device of RAM, of ROM and of registers is sound, from what their arrays keep.
use Rattle.std.specs.Prelude.{◌≡◌, ℕ, zero, suc, ◌<◌, ◌≤◌, true, false, cond, List, [], ◌∷◌, length, take, replicate, map, ◌==◌, slice_index}
use Rattle.std.proofs.Common.{refl, sym, ◌∙◌, arith, lit<}
use Rattle.std.proofs.lemmas.List.{length-take-le, length-replicate, length-map}
use Rattle.model.specs.declared.kinds.Kind.{Kind}
use Rattle.model.specs.declared.kinds.Kind.TheVariants.{Ram, Rom}
use Rattle.bank.specs.Devices.{Device, Sound, absent, single}
use Rattle.bank.specs.declared.front.Front.{Front}
use Rattle.bank.specs.declared.register.Register.{Register}
use Rattle.bank.specs.Banks.{front, ram_of, rom_of, registers_with, registers_of}

abbrev pub Small : List ℕ → Type 0
Small xs = (i : ℕ) → slice_index xs i < 256

pub take_small : (n : ℕ) (xs : List ℕ) → Small xs → Small (take n xs)
take_small zero xs s i = omega arith
take_small (suc n) [] s i = omega arith
take_small (suc n) (x ∷ xs) s zero = s 0
take_small (suc n) (x ∷ xs) s (suc i) = take_small n xs (λ k. s (suc k)) i

pub replicate_small : (n y : ℕ) → y < 256 → Small (replicate n y)
replicate_small zero y h i = omega arith
replicate_small (suc n) y h zero = h
replicate_small (suc n) y h (suc i) = replicate_small n y h i

absent_sound : Sound absent
absent_sound =
    record { short = omega arith; level = refl; small = λ i. omega arith; narrow = λ i. omega arith }

pub single_sound : (d : Device) → Sound d → (n : ℕ) → Sound (single d n)
single_sound d s n = elim (n == 0) as (λ t. Sound (cond t d absent)) [ true ↦ s | false ↦ absent_sound ]

-- an array of which the first n bytes are shown
pub record Held (xs : List ℕ) (n : ℕ) : Type 0 where
  pub whole : length xs ≡ 8192
  pub within : n ≤ 8192
  pub small : Small xs

pub front_long : (n : ℕ) (xs : List ℕ) → Held xs n → length (take n xs) ≡ n
front_long n xs held = let whole = held.whole in let within = held.within in length-take-le n xs (omega arith)

pub front_sound : (kind : Kind) (mask : ℕ) (xs : List ℕ) (n : ℕ) → Held xs n → mask < 256 → Sound (front kind mask xs n)
front_sound kind mask xs n held narrow =
    let long = front_long n xs held in
    record {
      short = rw long held.within;
      level = length-replicate n mask ∙ sym long;
      small = take_small n xs held.small;
      narrow = replicate_small n mask narrow;
    }

front_kept : (kind : Kind) (mask : ℕ) → mask < 256 → (bytes : List ℕ) (shown : ℕ) → length bytes ≡ 8192 → shown ≤ 8192 → Small bytes → (n : ℕ) → Sound (single (front kind mask bytes shown) n)
front_kept kind mask narrow bytes shown whole within small =
    single_sound _ (front_sound kind mask bytes shown (record { whole = whole; within = within; small = small }) narrow)

pub ram_kept : (bytes : List ℕ) (shown : ℕ) → length bytes ≡ 8192 → shown ≤ 8192 → Small bytes → (n : ℕ) → Sound (single (front Ram 255 bytes shown) n)
ram_kept = front_kept Ram 255 (lit< tt)

pub rom_kept : (bytes : List ℕ) (shown : ℕ) → length bytes ≡ 8192 → shown ≤ 8192 → Small bytes → (n : ℕ) → Sound (single (front Rom 0 bytes shown) n)
rom_kept = front_kept Rom 0 (lit< tt)

-- what RAM and ROM know of their array is in the type of their front
pub front_held : (f : Front) → Held f.bytes f.len
front_held f = record { whole = f.whole; within = f.within; small = f.small }

pub ram_sound : (f : Front) → Sound (ram_of f)
ram_sound f = front_sound Ram 255 f.bytes f.len (front_held f) (lit< tt)

pub rom_sound : (f : Front) → Sound (rom_of f)
rom_sound f = front_sound Rom 0 f.bytes f.len (front_held f) (lit< tt)

pub arrays_sound : (bytes masks : List ℕ) → length bytes ≡ 256 → length masks ≡ 256 → Small bytes → Small masks → Sound (registers_with bytes masks)
arrays_sound bytes masks whole level small narrow =
    record {
      short = omega arith;
      level = level ∙ sym whole;
      small = small;
      narrow = narrow;
    }

pub registers_kept : (bytes masks : List ℕ) → length bytes ≡ 256 → length masks ≡ 256 → Small bytes → Small masks → (n : ℕ) → Sound (single (registers_with bytes masks) n)
registers_kept bytes masks whole level small narrow = single_sound _ (arrays_sound bytes masks whole level small narrow)

values_small : (rs : List Register) → Small (map (λ r. r.value) rs)
values_small [] i = omega arith
values_small (r ∷ rs) zero = r.small
values_small (r ∷ rs) (suc i) = values_small rs i

masks_small : (rs : List Register) → Small (map (λ r. r.mask) rs)
masks_small [] i = omega arith
masks_small (r ∷ rs) zero = r.narrow
masks_small (r ∷ rs) (suc i) = masks_small rs i

pub registers_sound : (rs : List Register) → length rs ≡ 256 → Sound (registers_of rs)
registers_sound rs whole =
    arrays_sound (map (λ r. r.value) rs) (map (λ r. r.mask) rs) (length-map rs _ ∙ whole) (length-map rs _ ∙ whole) (values_small rs) (masks_small rs)
