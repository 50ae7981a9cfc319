-- One text after another in a line that keeps its first 256 bytes.
use Rattle.std.proofs.Common.{◌≡◌, ℕ, zero, suc, min, ◌+◌, ◌*◌, ◌/◌, ◌%◌, ◌<◌, ◌≤◌, ◌⊎◌, List, [], ◌∷◌, ◌++◌, length, take, sym, refl, ap, ◌∙◌, subst, ⊎_elim, append_assoc, append-nil, arith}
use Rattle.std.proofs.lemmas.List.{take_all, take_at, take_min, length-append}
use Rattle.std.proofs.Math.Seq.{take-append-add}
use Rattle.lexis.specs.declared.line.Line.{Line}
use Rattle.lexis.specs.Numeral.{glyph, numeral}
use Rattle.lexis.specs.Shown.{shown, Adds}
use Rattle.lexis.proofs.Glyphs.{numeral_digit, numeral_more}

-- a front of a front and more
pub take_front : (n : ℕ) (p c : List ℕ) → take n (take n p ++ c) ≡ take n (p ++ c)
take_front zero p c = refl
take_front (suc n) [] c = refl
take_front (suc n) (x ∷ p) c = ap (λ l. x ∷ l) (take_front n p c)

pub kept_then : (n : ℕ) (a b c x y : List ℕ) → b ≡ take n (a ++ x) → c ≡ take n (b ++ y) → c ≡ take n (a ++ (x ++ y))
kept_then n a b c x y e f = f ∙ ap (λ l. take n (l ++ y)) e ∙ take_front n (a ++ x) y ∙ ap (take n) (append_assoc a x y)

pub adds_then : {s t u : Line} {x y : List ℕ} → Adds s x t → Adds t y u → Adds s (x ++ y) u
adds_then {s} {t} {u} {x} {y} g h = record { shows = kept_then 256 (shown s) (shown t) (shown u) x y g.shows h.shows }

-- no line shows more
pub shown_short : (l : Line) → length (shown l) ≤ 256
shown_short l = l.within

-- nothing is put
pub adds_none : (s : Line) → Adds s [] s
adds_none s = record { shows = sym (ap (take 256) (append-nil (shown s)) ∙ take_all 256 (shown s) (shown_short s)) }

-- the same text, written otherwise
pub adds_same : {s t : Line} {x y : List ℕ} → x ≡ y → Adds s x t → Adds s y t
adds_same {s} e g = record { shows = g.shows ∙ ap (λ l. take 256 (shown s ++ l)) e }

-- a line from its beginning
pub adds_first : {s t : Line} {x : List ℕ} → shown s ≡ [] → length x ≤ 256 → Adds s x t → shown t ≡ x
adds_first {s} {t} {x} e h g = g.shows ∙ ap (λ l. take 256 (l ++ x)) e ∙ take_all 256 x h

-- as much of a text as there is room for
pub put_front : (xs text : List ℕ) (k n r : ℕ) → r + length xs ≡ k → n ≡ min (length text) r → xs ++ take n text ≡ take k (xs ++ text)
put_front xs text k n r room e =
    let m : n ≡ min r (length text) = omega arith in
    let s : length xs + r ≡ k = omega arith in
    ap (λ i. xs ++ take i text) m ∙ ap (λ l. xs ++ l) (take_min r text) ∙ sym (take-append-add xs text r) ∙ ap (λ i. take i (xs ++ text)) s

-- one byte more, and a byte too many
pub push_room : (xs ys : List ℕ) (k b : ℕ) → length xs < k → ys ≡ xs ++ b ∷ [] → ys ≡ take k (xs ++ b ∷ [])
push_room xs ys k b h e = e ∙ sym (take_all k (xs ++ b ∷ []) (omega (arith, length-append xs (b ∷ []))))

pub push_full : (xs : List ℕ) (k b : ℕ) → length xs ≡ k → xs ≡ take k (xs ++ b ∷ [])
push_full xs k b h = sym (take_at xs (b ∷ []) k h)

hex_last : (n : ℕ) → 16 ≤ n → numeral 16 n ≡ numeral 16 (n / 16) ++ glyph (n % 16) ∷ []
hex_last n h =
    let e : n ≡ n / 16 * 16 + n % 16 = omega arith in
    ap (numeral 16) e ∙ numeral_more 16 (n / 16) (n % 16) (omega arith) (omega arith) (omega arith)

-- a number by its last digit, after those before it
pub adds_hex : (s m t : Line) (n d : ℕ) → d ≡ glyph (n % 16) → ((n < 16) × (m ≡ s)) ⊎ ((16 ≤ n) × Adds s (numeral 16 (n / 16)) m) → Adds m (d ∷ []) t → Adds s (numeral 16 n) t
adds_hex s m t n d e way h =
    ⊎_elim
    (λ one.
    let r : n % 16 ≡ n = omega (arith, one.0) in
    adds_same (ap (λ k. k ∷ []) (e ∙ ap glyph r) ∙ sym (numeral_digit 16 n (omega arith) one.0)) (subst (λ l. Adds l (d ∷ []) t) one.1 h))
    (λ more. adds_same (ap (λ k. numeral 16 (n / 16) ++ k ∷ []) e ∙ sym (hex_last n more.0)) (adds_then more.1 h))
    way
