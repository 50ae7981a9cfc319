-- What a line that is being written holds.
use Rattle.std.specs.Prelude.{◌≡◌, ℕ, ◌+◌, Bool, cond, List, ◌++◌, length, take, drop, Some, None, Option, nat_le}
use Rattle.lexis.specs.declared.line.Line.{Line}

-- the bytes written so far
abbrev pub shown : Line → List ℕ
shown l = l.text.items

-- the text x is put after what s shows; of the whole the first 256 bytes are kept
pub record Adds (s : Line) (x : List ℕ) (t : Line) : Type 0 where
  pub shows : shown t ≡ take 256 (shown s ++ x)

-- whether the text x fits into the buffer b at the place i
abbrev pub fits : List ℕ → ℕ → List ℕ → Bool
fits x i b = nat_le (i + length x) (length b)

-- the place after a text that fits
abbrev pub past : List ℕ → ℕ → List ℕ → Option ℕ
past x i b = cond (fits x i b) (Some (i + length x)) None

-- the buffer with the text at the place i, where it fits
abbrev pub placed : List ℕ → ℕ → List ℕ → List ℕ
placed x i b = cond (fits x i b) (take i b ++ (x ++ drop (i + length x) b)) b
