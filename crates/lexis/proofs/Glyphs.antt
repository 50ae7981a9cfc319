-- The laws of numerals.
use Rattle.std.proofs.Common.{◌≡◌, ℕ, ◌+◌, ◌*◌, ◌/◌, ◌%◌, ◌^◌, ◌<◌, ◌≤◌, eqb, List, [], ◌∷◌, ◌++◌, map, length, get_or, take, sym, refl, ap, ◌∙◌, subst, ⊎_elim, mul-le-mul_right, arith}
use lib.Arith.{digits_div, digits_mod}
use Rattle.std.specs.List.{AllByRecursion}
use Rattle.std.specs.Int.Digits.{digits_of, number_from_digits, number_from_digits_after}
use Rattle.std.proofs.lemmas.Int.Digits.{length-digits_of-le, digits_of_step, first_digits_of, number_digits_of, same_from_digits_of, number_after_append, number_after_ge, all_below_base_digits_of}
use Rattle.std.proofs.lemmas.List.{length-map, map_push, take_more}
use Rattle.std.proofs.lemmas.Bool.{ne_eqb, cond-false, cases_eq}
use Rattle.std.proofs.lemmas.Bool.Decides.{nat_tests}
use Rattle.lexis.specs.Numeral.{glyph, numeral, Extends}

pub glyph_same : (d e : ℕ) → glyph d ≡ glyph e → d ≡ e
glyph_same d e h = grind (arith, nat_tests)

pub glyph_ge : (d : ℕ) → 48 ≤ glyph d
glyph_ge d = grind (arith, nat_tests)

pub numeral_zero : (b : ℕ) → numeral b 0 ≡ 48 ∷ []
unfolding numeral
numeral_zero b = refl

pub numeral_pos : (b n : ℕ) → 0 < n → numeral b n ≡ map glyph (digits_of b n)
unfolding numeral
numeral_pos b n h = cond-false (eqb n 0) _ _ (ne_eqb n 0 (λ e. omega arith))

-- one digit
pub numeral_digit : (b d : ℕ) → 2 ≤ b → d < b → numeral b d ≡ glyph d ∷ []
numeral_digit b d two h =
    ⊎_elim
    (λ none. ap (numeral b) none ∙ numeral_zero b ∙ ap (λ k. glyph k ∷ []) (sym none))
    (λ some.
    let p : 0 < d = grind arith in
    let q : d / b ≡ 0 = ap (λ k. k / b) (omega arith) ∙ digits_div 0 h in
    let r : d % b ≡ d = ap (λ k. k % b) (omega arith) ∙ digits_mod 0 h in
    let e : digits_of b d ≡ d ∷ [] = digits_of_step b d two p ∙ (λ i. digits_of b (q i) ++ (r i ∷ [])) in
    numeral_pos b d p ∙ ap (map glyph) e)
    (cases_eq d 0)

-- one digit more
pub numeral_more : (b v d : ℕ) → 2 ≤ b → 0 < v → d < b → numeral b (v * b + d) ≡ numeral b v ++ glyph d ∷ []
numeral_more b v d two some h =
    let big : 1 * b ≤ v * b = mul-le-mul_right b some in
    let p : 0 < v * b + d = omega arith in
    let e : digits_of b (v * b + d) ≡ digits_of b v ++ d ∷ [] = digits_of_step b (v * b + d) two p ∙ (λ i. digits_of b (digits_div v h i) ++ (digits_mod v h i ∷ [])) in
    numeral_pos b (v * b + d) p ∙ ap (map glyph) e ∙ map_push glyph (digits_of b v) d ∙ ap (λ l. l ++ glyph d ∷ []) (sym (numeral_pos b v some))

-- what a numeral holds

lead : (ds z : List ℕ) → 0 < get_or ds 0 0 → 48 ∷ z ≡ map glyph ds → ⊥
lead [] z h e = omega arith
lead (d ∷ ds) z h e =
    let f : 48 ≡ glyph d = cc in
    let g : 0 ≡ d = glyph_same 0 d f in
    omega arith

pub no_lead : (b n : ℕ) (z : List ℕ) → 2 ≤ b → 0 < n → 48 ∷ z ≡ numeral b n → ⊥
no_lead b n z two h e = lead (digits_of b n) z (first_digits_of b n two h) (e ∙ numeral_pos b n h)

all_ge : (ds : List ℕ) → AllByRecursion (λ c. 48 ≤ c) (map glyph ds)
all_ge [] = tt
all_ge (d ∷ ds) = (glyph_ge d, all_ge ds)

pub numeral_ge : (b n : ℕ) → AllByRecursion (λ c. 48 ≤ c) (numeral b n)
numeral_ge b n =
    ⊎_elim
    (λ none. subst (AllByRecursion (λ c. 48 ≤ c)) (sym (ap (numeral b) none ∙ numeral_zero b)) (omega arith, tt))
    (λ some. subst (AllByRecursion (λ c. 48 ≤ c)) (sym (numeral_pos b n (grind arith))) (all_ge (digits_of b n)))
    (cases_eq n 0)

map_same : (ds es : List ℕ) → map glyph ds ≡ map glyph es → ds ≡ es
map_same [] [] e = refl
map_same [] (y ∷ es) e = absurd (let z : ◌≡◌ {A = ℕ} 0 1 = cc in omega arith)
map_same (x ∷ ds) [] e = absurd (let z : ◌≡◌ {A = ℕ} 0 1 = cc in omega arith)
map_same (x ∷ ds) (y ∷ es) e =
    let h : glyph x ≡ glyph y = cc in
    let t : map glyph ds ≡ map glyph es = cc in
    λ i. glyph_same x y h i ∷ map_same ds es t i

pub numeral_same : (b m n : ℕ) → 2 ≤ b → numeral b m ≡ numeral b n → m ≡ n
numeral_same b m n two e =
    ⊎_elim
    (λ p. ⊎_elim
    (λ q. p ∙ sym q)
    (λ q. absurd (no_lead b n [] two (grind arith) (sym (numeral_zero b) ∙ ap (numeral b) (sym p) ∙ e)))
    (cases_eq n 0))
    (λ p. ⊎_elim
    (λ q. absurd (no_lead b m [] two (grind arith) (sym (numeral_zero b) ∙ ap (numeral b) (sym q) ∙ sym e)))
    (λ q. same_from_digits_of b m n two (map_same _ _ (sym (numeral_pos b m (grind arith)) ∙ e ∙ numeral_pos b n (grind arith))))
    (cases_eq n 0))
    (cases_eq m 0)

map_split : (ds w z : List ℕ) (c : ℕ) → map glyph ds ≡ w ++ c ∷ z → (ws : List ℕ) × (d : ℕ) × (zs : List ℕ) × (ds ≡ ws ++ d ∷ zs) × (map glyph ws ≡ w) × (c ≡ glyph d)
map_split [] [] z c e = absurd (let f : ◌≡◌ {A = ℕ} 0 1 = cc in omega arith)
map_split [] (x ∷ w) z c e = absurd (let f : ◌≡◌ {A = ℕ} 0 1 = cc in omega arith)
map_split (d ∷ ds) [] z c e = ([], d, ds, refl, refl, cc)
map_split (d ∷ ds) (x ∷ w) z c e =
    let g : glyph d ≡ x = cc in
    let t : map glyph ds ≡ w ++ c ∷ z = cc in
    let r = map_split ds w z c t in
    (d ∷ r.0, r.1, r.2, (λ i. d ∷ r.3 i), (λ i. g i ∷ r.4 i), r.5)

pub all_at : (P : ℕ → Type 0) (ws : List ℕ) (d : ℕ) (zs : List ℕ) → AllByRecursion P (ws ++ d ∷ zs) → P d
all_at P [] d zs a = a.0
all_at P (w ∷ ws) d zs a = all_at P ws d zs a.1

one_byte : (w z : List ℕ) (c : ℕ) → 48 ∷ [] ≡ w ++ c ∷ z → (w ≡ []) × (c ≡ 48)
one_byte [] z c e = (refl, cc)
one_byte (x ∷ []) z c e = absurd (let f : ◌≡◌ {A = ℕ} 0 1 = cc in omega arith)
one_byte (x ∷ y ∷ w) z c e = absurd (let f : ◌≡◌ {A = ℕ} 0 1 = cc in omega arith)

map_none : (ds : List ℕ) → [] ≡ map glyph ds → ds ≡ []
map_none [] e = refl
map_none (d ∷ ds) e = absurd (let f : ◌≡◌ {A = ℕ} 0 1 = cc in omega arith)

pub numeral_some : (b n : ℕ) → 2 ≤ b → [] ≡ numeral b n → ⊥
numeral_some b n two e =
    ⊎_elim
    (λ none. let f = e ∙ ap (numeral b) none ∙ numeral_zero b in let g : ◌≡◌ {A = ℕ} 0 1 = cc in omega arith)
    (λ some.
    let p : 0 < n = grind arith in
    let f = map_none _ (e ∙ numeral_pos b n p) in
    omega (arith, first_digits_of b n two p, ap (λ l. get_or l 0 0) f))
    (cases_eq n 0)

-- a byte of a numeral is a digit's; as the first it is at most the whole, and after a numeral it writes a number up to the whole
pub inside : (b m : ℕ) (w z : List ℕ) (c : ℕ) → 2 ≤ b → numeral b m ≡ w ++ c ∷ z → (d : ℕ) × (d < b) × (c ≡ glyph d) × (w ≡ [] → d ≤ m) × ((v : ℕ) → w ≡ numeral b v → (0 < v) × (v * b + d ≤ m))
inside b m w z c two e =
    ⊎_elim
    (λ none.
    let r = one_byte w z c (sym (numeral_zero b) ∙ ap (numeral b) (sym none) ∙ e) in
    (0, omega arith, r.1, (λ _. omega arith), λ v h. absurd (numeral_some b v two (sym r.0 ∙ h))))
    (λ some.
    let p : 0 < m = grind arith in
    let r = map_split (digits_of b m) w z c (sym (numeral_pos b m p) ∙ e) in
    let ws = r.0 in
    let d = r.1 in
    let zs = r.2 in
    let under = subst (AllByRecursion (λ k. k < b)) r.3 (all_below_base_digits_of b m two) in
    let reached : (v : ℕ) → v ≡ number_from_digits b ws → v * b + d ≤ m = λ v h.
    let worth : number_from_digits_after b (v * b + d) zs ≡ m =
    ap (λ t. number_from_digits_after b (t * b + d) zs) h
    ∙ sym (number_after_append b 0 ws (d ∷ zs))
    ∙ ap (number_from_digits b) (sym r.3)
    ∙ number_digits_of b m two in
    omega (arith, number_after_ge b (v * b + d) zs (omega arith)) in (
      d,
      all_at (λ k. k < b) ws d zs under,
      r.5,
      (λ h. let f = reached 0 (ap (number_from_digits b) (sym (map_none ws (sym h ∙ sym r.4)))) in omega arith),
      λ v h.
          ⊎_elim
          (λ q. absurd (no_lead b m (c ∷ z) two p (ap (λ l. l ++ c ∷ z) (sym (h ∙ ap (numeral b) q ∙ numeral_zero b)) ∙ sym e)))
          (λ q.
          let k : 0 < v = grind arith in
          let same : ws ≡ digits_of b v = map_same ws (digits_of b v) (r.4 ∙ h ∙ numeral_pos b v k) in
          (k, reached v (sym (number_digits_of b v two) ∙ ap (number_from_digits b) (sym same))))
          (cases_eq v 0),
    ))
    (cases_eq m 0)

-- one more byte that goes on
pub front_more : (b most v k n : ℕ) (text : List ℕ) → 2 ≤ b → k < length text → Extends b most k v (get_or text k 0) n → (k ≡ 0 → v ≡ 0) → (0 < k → take k text ≡ numeral b v) → take (k + 1) text ≡ numeral b n
front_more b most v k n text two inb h none front =
    take_more text k 0 inb
    ∙ ⊎_elim
    (λ (z : k ≡ 0).
    let v0 : v ≡ 0 = none z in
    let nd : n ≡ h.digit = h.is ∙ ap (λ t. t * b + h.digit) v0 ∙ omega arith in
    (λ i. take (z i) text ++ h.shows i ∷ []) ∙ sym (numeral_digit b h.digit two h.low) ∙ ap (numeral b) (sym nd))
    (λ (z : k ≡ 0 → ⊥).
    let p : 0 < k = grind arith in
    (λ i. front p i ++ h.shows i ∷ []) ∙ sym (numeral_more b v h.digit two (h.led p) h.low) ∙ ap (numeral b) (sym h.is))
    (cases_eq k 0)

-- how many digits a number has
pub numeral_short : (b k n : ℕ) → 2 ≤ b → 1 ≤ k → n < b ^ k → length (numeral b n) ≤ k
numeral_short b k n two one h =
    ⊎_elim
    (λ none. omega (arith, ap (λ i. length (numeral b i)) none, ap length (numeral_zero b)))
    (λ some. omega (arith, ap length (numeral_pos b n (grind arith)), length-map (digits_of b n) glyph, length-digits_of-le b k n two h))
    (cases_eq n 0)
