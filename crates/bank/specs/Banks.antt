-- The devices of RAM, ROM and registers: over the fields of their chips, and as they are made.
use Rattle.std.specs.Prelude.{ℕ, cond, ◌&&◌, List, length, take, replicate, map, nat_le}
use Rattle.model.specs.declared.kinds.Kind.{Kind}
use Rattle.model.specs.declared.kinds.Kind.TheVariants.{Ram, Rom, Reg}
use Rattle.bank.specs.Devices.{Device}
use Rattle.bank.specs.declared.front.Front.{Front}
use Rattle.bank.specs.declared.register.Register.{Register}

-- the first n bytes of an array, all under one mask
abbrev pub front : Kind → ℕ → List ℕ → ℕ → Device
front kind mask bytes n = record { kind = kind; bytes = take n bytes; masks = replicate n mask }

-- RAM, which a write alters whole
abbrev pub ram_of : Front → Device
ram_of f = front Ram 255 f.bytes f.len

-- ROM, which no write alters
abbrev pub rom_of : Front → Device
rom_of f = front Rom 0 f.bytes f.len

-- registers with these bytes, each under a mask of its own
abbrev pub registers_with : List ℕ → List ℕ → Device
registers_with bytes masks = record { kind = Reg; bytes = bytes; masks = masks }

abbrev pub registers_of : List Register → Device
registers_of rs = registers_with (map (λ r. r.value) rs) (map (λ r. r.mask) rs)

-- the length that RAM shows where n is asked for
abbrev pub shown_for : ℕ → ℕ
shown_for n = cond (nat_le 1 n && nat_le n 8192) n 8192

-- RAM of n zeros
abbrev pub zeroed : ℕ → Device
zeroed n = record { kind = Ram; bytes = replicate n 0; masks = replicate n 255 }

-- ROM with the first 8,192 of the bytes at most
abbrev pub burnt : List ℕ → Device
burnt bytes = record {
  kind = Rom;
  bytes = take 8192 bytes;
  masks = replicate (length (take 8192 bytes)) 0;
}

-- 256 registers of zeros, under the given masks
abbrev pub cleared : List ℕ → Device
cleared masks = record { kind = Reg; bytes = replicate 256 0; masks = masks }
