-- Numbers as text.
use Rattle.std.specs.Prelude.{◌≡◌, ℕ, ◌+◌, ◌*◌, ◌<◌, ◌≤◌, cond, List, [], ◌∷◌, ◌++◌, map, length, take, ◌==◌, nat_lt, slice_index}
use Rattle.std.specs.Int.Digits.{digits_of}
use Rattle.lexis.specs.declared.tokens.Divider.{Divider}
use Rattle.lexis.specs.Tokens.{mark}

-- the byte of a digit: 0 to 9, then a to z
abbrev pub glyph : ℕ → ℕ
glyph d = cond (nat_lt d 10) (48 + d) (87 + d)

-- a number in base b, without leading zeros
unfoldable pub numeral : ℕ → ℕ → List ℕ
numeral b n = cond (n == 0) (48 ∷ []) (map glyph (digits_of b n))

-- a number of base b up to most, and then the byte of the divider end
pub record Number (b most : ℕ) (end : Divider) (w : List ℕ) (n : ℕ) : Type 0 where
  pub text : w ≡ numeral b n ++ mark end ∷ []
  pub small : n ≤ most

-- after k digits that write v, the byte c is one more digit, and together they write n
pub record Extends (b most k v c n : ℕ) : Type 0 where
  pub digit : ℕ
  pub low : digit < b
  pub shows : c ≡ glyph digit
  pub is : n ≡ v * b + digit
  pub small : n ≤ most
  pub led : 0 < k → 0 < v

-- the first k bytes of text are its longest front that begins a number up to most, and they write v
pub record Leads (b most : ℕ) (text : List ℕ) (v k : ℕ) : Type 0 where
  pub within : k ≤ length text
  pub small : v ≤ most
  pub nothing : k ≡ 0 → v ≡ 0
  pub front : 0 < k → take k text ≡ numeral b v
  pub stops : k < length text → (n : ℕ) → Extends b most k v (slice_index text k) n → ⊥
