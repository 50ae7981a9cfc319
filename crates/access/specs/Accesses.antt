-- Reads and writes of guest addresses, by what is shown at each address: its place, or none.
use Rattle.std.specs.Prelude.{ℕ, zero, suc, Bool, false, not, ◌&&◌, ◌||◌, List, [], ◌∷◌, is_some, Some, None, Option, ◌==◌, nat_lt, slice_index}
use Rattle.model.specs.declared.faults.Fault.{Fault}
use Rattle.model.specs.declared.faults.Fault.TheVariants.{BadLength, NoPlace, NoWrites}
use Rattle.model.specs.declared.places.Place.{Place}
use Rattle.model.specs.Rows.{Row, first_applying}
use Rattle.bank.specs.Devices.{Device, wrote}

-- no address, or over 4,096 of them
abbrev pub bad_count : ℕ → Bool
bad_count n = n == 0 || nat_lt 4096 n

-- a place that lets no write through
abbrev pub shut : Option Place → Bool
shut None = false
shut (Some p) = not p.writes

-- the rows of n addresses from a on, the lowest address first
unfoldable pub address_rows : (writing : Bool) → (ℕ → Option Place) → ℕ → ℕ → List Row
address_rows writing shows a zero = []
address_rows writing shows a (suc n) =
    (not (is_some (shows a)), NoPlace a) ∷
    (writing && shut (shows a), NoWrites a) ∷
    address_rows writing shows (suc a) n

abbrev pub access_rows : (writing : Bool) → (ℕ → Option Place) → ℕ → ℕ → List Row
access_rows writing shows a n = (bad_count n, BadLength n) ∷ address_rows writing shows a n

-- the fault that an access of n addresses from a on answers, if it is refused
unfoldable pub access_refusal : (writing : Bool) → (ℕ → Option Place) → ℕ → ℕ → Option Fault
access_refusal writing shows a n = first_applying (access_rows writing shows a n)

-- the byte at a place, and 0 where there is none; every address of an accepted access has a place
abbrev pub byte_at : (ℕ → Device) → Option Place → ℕ
byte_at ds None = 0
byte_at ds (Some p) = slice_index (ds p.device).bytes p.offset

-- the bytes at n addresses from a on
unfoldable pub bytes_from : (ℕ → Option Place) → (ℕ → Device) → ℕ → ℕ → List ℕ
bytes_from shows ds a zero = []
bytes_from shows ds a (suc n) = byte_at ds (shows a) ∷ bytes_from shows ds (suc a) n

-- the devices after a byte went to a place
abbrev pub put_at : (ℕ → Device) → Option Place → ℕ → ℕ → Device
put_at ds None b = ds
put_at ds (Some p) b = wrote ds p.device p.offset b

-- the devices after the bytes went one by one, rising, to the addresses from a on
unfoldable pub stored_from : (ℕ → Option Place) → (ℕ → Device) → ℕ → List ℕ → ℕ → Device
stored_from shows ds a [] = ds
stored_from shows ds a (b ∷ bs) = stored_from shows (put_at ds (shows a) b) (suc a) bs
