-- A number as a word of a line.
use Rattle.std.proofs.Common.{◌≡◌, ℕ, ◌+◌, ◌-◌, ◌*◌, ◌<◌, ◌≤◌, true, ◌⊎◌, List, [], ◌∷◌, ◌++◌, length, get_or, take, drop, Err, sym, refl, ap, ◌∙◌, subst, inl, inr, ⊎_elim, append_assoc, arith, Bor}
use Rattle.std.specs.List.{AllByRecursion}
use Rattle.std.proofs.lemmas.List.{length-append, take-append-drop, drop-append-le, drop_more, drop_at, take_all}
use Rattle.std.proofs.ByRecursion.{All-get_or}
use Rattle.std.proofs.lemmas.Bool.{cases_eq, both_ways}
use Rattle.std.proofs.lemmas.Bool.Decides.{nat_tests}
use Rattle.lexis.specs.declared.lost.Lost.{Lost as Failed}
use Rattle.lexis.specs.declared.tokens.Divider.{Divider}
use Rattle.lexis.specs.declared.tokens.Divider.TheVariants.{Open as Opening, Close as Closing, Space as Blank}
use Rattle.lexis.specs.declared.tokens.Token.{Token}
use Rattle.lexis.specs.declared.tokens.Token.TheVariants.{Open, Close, Space, Word, End}
use Rattle.lexis.specs.Lang.{Begun, Lost}
use Rattle.lexis.specs.Numeral.{numeral, Number, Extends, Leads}
use Rattle.lexis.specs.Reading.{Reading}
use Rattle.lexis.specs.Tokens.{mark, divider, Plain, Parted, Lexed}
use Rattle.lexis.proofs.Joins.{Free, Some, lost_by}
use Rattle.lexis.proofs.Glyphs.{glyph_ge, numeral_ge, numeral_same, numeral_some, all_at, inside}

low_divider : (c : ℕ) → divider c ≡ true → c < 48
low_divider c e = grind (arith, nat_tests)

mark_divides : (d : Divider) → divider (mark d) ≡ true
mark_divides Opening = refl
mark_divides Closing = refl
mark_divides Blank = refl

low_mark : (d : Divider) → mark d < 48
low_mark d = low_divider (mark d) (mark_divides d)

-- the first byte below 48 ends both
span : (p q : List ℕ) (e : ℕ) (z y : List ℕ) → AllByRecursion (λ c. 48 ≤ c) p → AllByRecursion (λ c. 48 ≤ c) q → e < 48 → p ++ e ∷ z ≡ q ++ e ∷ y → p ≡ q
span [] [] e z y a b l h = refl
span [] (d ∷ q) e z y a b l h = let g : e ≡ d = cc in absurd (omega (arith, b.0))
span (c ∷ p) [] e z y a b l h = let g : c ≡ e = cc in absurd (omega (arith, a.0))
span (c ∷ p) (d ∷ q) e z y a b l h =
    let g : c ≡ d = cc in
    let t : p ++ e ∷ z ≡ q ++ e ∷ y = cc in
    λ i. g i ∷ span p q e z y a.1 b.1 l t i

-- a byte of a list and its end is of the list, or is the end
ended_byte : (q : List ℕ) (e : ℕ) (p m : List ℕ) (c : ℕ) → p ++ c ∷ m ≡ q ++ e ∷ [] → ((z : List ℕ) × (q ≡ p ++ c ∷ z)) ⊎ ((c ≡ e) × (p ≡ q))
ended_byte [] e [] m c h = inr (cc, refl)
ended_byte [] e (x ∷ []) m c h = absurd (let f : ◌≡◌ {A = ℕ} 0 1 = cc in omega arith)
ended_byte [] e (x ∷ y ∷ p) m c h = absurd (let f : ◌≡◌ {A = ℕ} 0 1 = cc in omega arith)
ended_byte (d ∷ q) e [] m c h = let g : d ≡ c = cc in inl (q, λ i. g i ∷ q)
ended_byte (d ∷ q) e (x ∷ p) m c h =
    let g : d ≡ x = cc in
    let t : p ++ c ∷ m ≡ q ++ e ∷ [] = cc in
    ⊎_elim
    (λ r. inl (r.0, λ i. g i ∷ r.1 i))
    (λ r. inr (r.0, λ i. sym g i ∷ r.1 i))
    (ended_byte q e p m c t)

-- the first byte of what is parted
parted_first : (y : List ℕ) (c : ℕ) (z : List ℕ) → Parted y → y ≡ c ∷ z → divider c ≡ true
parted_first [] c z p e = absurd (let f : ◌≡◌ {A = ℕ} 0 1 = cc in omega arith)
parted_first (d ∷ y) c z p e = let f : d ≡ c = cc in subst (λ t. divider t ≡ true) f p

-- what is no word begins with a divider
pub unworded : (x : List ℕ) (t : Token) (y : List ℕ) → Lexed x t y → ((r : Bor (List ℕ)) (k : ℕ) → t ≡ Word r k → ⊥) → Parted x
unworded x (Open k) y h n = subst Parted (sym h) refl
unworded x (Close k) y h n = subst Parted (sym h) refl
unworded x (Space k) y h n = subst Parted (sym h) refl
unworded x (Word r k) y h n = absurd (n r k refl)
unworded x (End k) y h n = subst Parted (sym h.0) tt

module _ (b most : ℕ) (end : Divider) where
  pub number_some : Some (Number b most end)
  number_some = record { value = 0; text = numeral b 0 ++ mark end ∷ []; word = record { text = refl; small = omega arith } }

  pub number_free : 2 ≤ b → Free (Number b most end)
  number_free two =
      record {
        one = λ m n w v z y h k e.
            let g : numeral b m ++ mark end ∷ z ≡ numeral b n ++ mark end ∷ y =
            sym (append_assoc (numeral b m) (mark end ∷ []) z) ∙ ap (λ l. l ++ z) (sym h.text) ∙ e ∙ ap (λ l. l ++ y) k.text ∙ append_assoc (numeral b n) (mark end ∷ []) y in
            let s = span (numeral b m) (numeral b n) (mark end) z y (numeral_ge b m) (numeral_ge b n) (low_mark end) g in
            (h.text ∙ ap (λ l. l ++ mark end ∷ []) s ∙ sym k.text, numeral_same b m n two s);
      }

  -- what stands before rest are k digits that write v, and the first byte of rest neither goes on nor ends them
  pub record Stuck (x front rest : List ℕ) (k v : ℕ) : Type 0 where
    pub split : x ≡ front ++ rest
    pub none : k ≡ 0 → (v ≡ 0) × (front ≡ [])
    pub some : 0 < k → front ≡ numeral b v
    pub small : v ≤ most
    pub stops : (c : ℕ) (z : List ℕ) → rest ≡ c ∷ z → (n : ℕ) → Extends b most k v c n → ⊥
    pub ends : 0 < k → (c : ℕ) (z : List ℕ) → rest ≡ c ∷ z → c ≡ mark end → ⊥

  module _ (two : 2 ≤ b) (x front rest : List ℕ) (k v : ℕ) (h : Stuck x front rest k v) where
    viable : Begun (Number b most end) front
    viable =
        ⊎_elim
        (λ (z : k ≡ 0). record { value = 0; more = numeral b 0 ++ mark end ∷ []; word = record { text = ap (λ l. l ++ (numeral b 0 ++ mark end ∷ [])) (h.none z).1; small = omega arith } })
        (λ (z : k ≡ 0 → ⊥). record { value = v; more = mark end ∷ []; word = record { text = ap (λ l. l ++ mark end ∷ []) (h.some (grind arith)); small = h.small } })
        (cases_eq k 0)

    halts : (c : ℕ) (z : List ℕ) → rest ≡ c ∷ z → Begun (Number b most end) (front ++ c ∷ []) → ⊥
    halts c z e g =
        ⊎_elim
        (λ t.
        let r = inside b g.value front t.0 c two t.1 in
        ⊎_elim
        (λ (q : k ≡ 0).
        let v0 = (h.none q).0 in
        h.stops c z e r.0 (record { digit = r.0; low = r.1; shows = r.2; is = sym (ap (λ y. y * b + r.0) v0 ∙ omega arith); small = omega (arith, r.3 (h.none q).1, g.word.small); led = λ l. absurd (omega arith) }))
        (λ (q : k ≡ 0 → ⊥).
        let s = r.4 v (h.some (grind arith)) in
        h.stops c z e (v * b + r.0) (record { digit = r.0; low = r.1; shows = r.2; is = refl; small = omega (arith, s.1, g.word.small); led = λ _. s.0 }))
        (cases_eq k 0))
        (λ t.
        ⊎_elim
        (λ (q : k ≡ 0). numeral_some b g.value two (sym (h.none q).1 ∙ t.1))
        (λ (q : k ≡ 0 → ⊥). h.ends (grind arith) c z e t.0)
        (cases_eq k 0))
        (ended_byte (numeral b g.value) (mark end) front g.more c (sym (append_assoc front (c ∷ []) g.more) ∙ g.word.text))

    high : AllByRecursion (λ c. 48 ≤ c) front
    high =
        ⊎_elim
        (λ (q : k ≡ 0). subst (AllByRecursion (λ c. 48 ≤ c)) (sym (h.none q).1) tt)
        (λ (q : k ≡ 0 → ⊥). subst (AllByRecursion (λ c. 48 ≤ c)) (sym (h.some (grind arith))) (numeral_ge b v))
        (cases_eq k 0)

    unended : (a : ℕ) → Number b most end front a → ⊥
    unended a w = let m = all_at (λ c. 48 ≤ c) (numeral b a) (mark end) [] (subst (AllByRecursion (λ c. 48 ≤ c)) w.text high) in omega (arith, low_mark end)

    pub number_lost : Lost (Number b most end) x rest
    number_lost = lost_by (Number b most end) (number_free two) x front rest h.split viable halts unended

  no_digit : (c k v n : ℕ) → divider c ≡ true → Extends b most k v c n → ⊥
  no_digit c k v n d h = omega (arith, low_divider c d, glyph_ge h.digit, h.shows)

  -- a line that begins with no word
  pub number_none : 2 ≤ b → (x : List ℕ) → Parted x → Lost (Number b most end) x x
  number_none two x p =
      number_lost two x [] x 0 0
      (record {
        split = refl;
        none = λ _. (refl, refl);
        some = λ h. absurd (omega arith);
        small = omega arith;
        stops = λ c t e n. no_digit c 0 0 n (parted_first x c t p e);
        ends = λ h. absurd (omega arith);
      })

  -- a line x that begins with the word t, of which k bytes begin a number
  module _ (two : 2 ≤ b) (x t y : List ℕ) (v k : ℕ) (cut : x ≡ t ++ y) (leads : Leads b most t v k) where
    pub number_short : k < length t → AllByRecursion Plain t → Lost (Number b most end) x (drop k x)
    number_short h plain =
        let rest : drop k x ≡ drop k t ++ y = ap (drop k) cut ∙ drop-append-le k t y leads.within in
        let here : (c : ℕ) (z : List ℕ) → drop k x ≡ c ∷ z → get_or t k 0 ≡ c = λ c z e.
        let f = drop_more t k 0 h in
        let g : get_or t k 0 ∷ (drop (k + 1) t ++ y) ≡ c ∷ z = ap (λ l. l ++ y) (sym f) ∙ sym rest ∙ e in
        cc in
        number_lost two x (take k t) (drop k x) k v
        (record {
          split = cut ∙ ap (λ l. l ++ y) (sym (take-append-drop k t)) ∙ append_assoc (take k t) (drop k t) y ∙ ap (λ l. take k t ++ l) (sym rest);
          none = λ z. (leads.nothing z, ap (λ i. take i t) z);
          some = leads.front;
          small = leads.small;
          stops = λ c z e n g. leads.stops h n (subst (λ q. Extends b most k v q n) (sym (here c z e)) g);
          ends = λ _ c z e f.
              both_ways (divider c)
              (subst Plain (here c z e) (All-get_or Plain t k 0 h plain))
              (subst (λ s. divider s ≡ true) (sym f) (mark_divides end));
        })

    text_is : 0 < length t → length t ≤ k → t ≡ numeral b v
    text_is s h = sym (take_all k t h) ∙ leads.front (omega arith)

    pub number_unended : 0 < length t → length t ≤ k → Parted y → ((c : ℕ) (z : List ℕ) → y ≡ c ∷ z → c ≡ mark end → ⊥) → Lost (Number b most end) x (drop k x)
    number_unended some h p other =
        let whole : length t ≡ k = omega (arith, leads.within) in
        subst (Lost (Number b most end) x) (sym (ap (drop k) cut ∙ drop_at t y k whole))
        (number_lost two x t y k v
        (record {
          split = cut;
          none = λ z. absurd (omega arith);
          some = λ _. text_is some h;
          small = leads.small;
          stops = λ c z e n. no_digit c k v n (parted_first y c z p e);
          ends = λ _. other;
        }))

-- a line that fails k bytes on
module _ {A : Type 0} (L : List ℕ → A → Type 0) (x : List ℕ) (col : ℕ) where
  pub stops_here : (e : Failed) → e.column ≡ col → Lost L x x → Reading L x col (Err e)
  stops_here e at l = let z : e.column - col ≡ 0 = omega arith in (omega arith, omega arith, subst (λ i. Lost L x (drop i x)) (sym z) l)

  pub stops_after : (t y : List ℕ) (k : ℕ) (e : Failed) → e.column ≡ col + k → x ≡ t ++ y → k ≤ length t → Lost L x (drop k x) → Reading L x col (Err e)
  stops_after t y k e at cut h l =
      let n = ap length cut ∙ length-append t y in
      let f : k ≡ e.column - col = omega arith in
      (omega arith, omega arith, subst (λ i. Lost L x (drop i x)) f l)
