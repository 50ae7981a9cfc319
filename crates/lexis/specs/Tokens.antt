-- The pieces of a line.
use Rattle.std.specs.Prelude.{◌≡◌, ℕ, ◌<◌, Bool, true, false, ◌||◌, List, [], ◌∷◌, ◌++◌, length, ◌==◌}
use Rattle.std.specs.List.{AllByRecursion}
use Rattle.lexis.specs.declared.tokens.Divider.{Divider}
use Rattle.lexis.specs.declared.tokens.Divider.TheVariants.{Open as Opening, Close as Closing, Space as Blank}
use Rattle.lexis.specs.declared.tokens.Token.{Token}
use Rattle.lexis.specs.declared.tokens.Token.TheVariants.{Open, Close, Space, Word, End}

-- the byte of a divider: '(', ')' or a space
abbrev pub mark : Divider → ℕ
mark Opening = 40
mark Closing = 41
mark Blank = 32

-- whether a byte is a divider's
abbrev pub divider : ℕ → Bool
divider c = c == 32 || (c == 40 || c == 41)

-- a byte of a word
abbrev pub Plain : ℕ → Type 0
Plain c = divider c ≡ false

-- nothing, or a divider first
abbrev pub Parted : List ℕ → Type 0
Parted [] = Unit {0}
Parted (c ∷ y) = divider c ≡ true

-- x is one piece and then y; a word goes on up to the next divider or the end
abbrev pub Lexed : List ℕ → Token → List ℕ → Type 0
Lexed x (Open c) y = x ≡ 40 ∷ y
Lexed x (Close c) y = x ≡ 41 ∷ y
Lexed x (Space c) y = x ≡ 32 ∷ y
Lexed x (Word t c) y = (x ≡ t.now ++ y) × (0 < length t.now) × AllByRecursion Plain t.now × Parted y
Lexed x (End c) y = (x ≡ []) × (y ≡ [])

-- the column that a piece carries
abbrev pub start : Token → ℕ
start (Open c) = c
start (Close c) = c
start (Space c) = c
start (Word t c) = c
start (End c) = c
