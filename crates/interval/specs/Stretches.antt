-- Stretches of addresses: what a table of them has to be, and what stands at an address.
use Rattle.std.specs.Prelude.{ℕ, ◌+◌, ◌-◌, ◌^◌, Bool, true, cond, ◌&&◌, List, [], ◌∷◌, length, take, Some, None, Option, ◌==◌, nat_le, nat_lt}
use Rattle.std.specs.Option.{option_map}
use Rattle.interval.specs.declared.stretches.Stretch.{Stretch}

-- the first address past a stretch
abbrev pub stop : {L : Type 0} → Stretch L → ℕ
stop s = s.start + s.length

-- there is an address, and none at 2^40 or past it
abbrev pub lawful : ℕ → ℕ → Bool
lawful start size = nat_lt 0 size && nat_le (start + size) (2 ^ 40)

-- the stretches are lawful, and rise from `low` without overlap
abbrev pub rising : {L : Type 0} → ℕ → List (Stretch L) → Bool
rising low [] = true
rising low (s ∷ xs) = nat_le low s.start && (lawful s.start s.length && rising (stop s) xs)

-- the table has `used` live records, and they are in order
abbrev pub ready : {L : Type 0} → List (Stretch L) → ℕ → Bool
ready table used = nat_le used (length table) && rising 0 (take used table)

-- the address is one of the stretch's
abbrev pub holds : {L : Type 0} → Stretch L → ℕ → Bool
holds s a = nat_le s.start a && nat_lt a (stop s)

-- the stretch that holds the address, if there is one
abbrev pub found : {L : Type 0} → List (Stretch L) → ℕ → Option (Stretch L)
found [] a = None
found (s ∷ xs) a = cond (holds s a) (Some s) (found xs a)

-- the label at an address: that of its stretch, advanced by the distance from the start
abbrev pub at : {L : Type 0} → (L → ℕ → L) → List (Stretch L) → ℕ → Option L
at advanced xs a = option_map (λ s. advanced s.label (a - s.start)) (found xs a)

-- the stretches are equal in all parts, the labels by their sameness
abbrev pub same_stretch : {L : Type 0} → (L → L → Bool) → Stretch L → Stretch L → Bool
same_stretch same x y = x.start == y.start && (x.length == y.length && same x.label y.label)
