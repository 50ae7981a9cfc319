-- Which of several texts a line begins with; a single text is a set of one.
use Rattle.std.proofs.Common.{◌≡◌, ℕ, suc, max, ◌+◌, ◌-◌, ◌<◌, ◌≤◌, cond, eqb, List, [], ◌∷◌, ◌++◌, length, get_or, take, drop, Err, sym, refl, ap, ◌∙◌, subst, ⊎_elim, append_assoc, append-nil, arith}
use Rattle.std.proofs.lemmas.List.{take-append-drop, length-append, length-take-le, take-take, take_all, get_or_read}
use Rattle.std.specs.List.{prefix_len, zip}
use Rattle.std.proofs.lemmas.List.Sums.{common_prefix_len-le}
use Rattle.std.proofs.lemmas.Bool.{eq-eqb, ne_eqb, cond-true, cond-false, cases_eq, cases_lt}
use Rattle.lexis.specs.declared.lost.Lost.{Lost as Failed}
use Rattle.lexis.specs.Lang.{Got, Lost, Literal, Chosen, Vocabulary, agree}
use Rattle.lexis.specs.Reading.{Reading}
use Rattle.lexis.proofs.Joins.{Free, Some, overlap, lost_by}

head_same : (x y : ℕ) (xs ys : List ℕ) → x ≡ y → agree (x ∷ xs) (y ∷ ys) ≡ suc (agree xs ys)
head_same x y xs ys e = cond-true (eqb x y) _ _ (eq-eqb x y e) ∙ omega arith

head_other : (x y : ℕ) (xs ys : List ℕ) → (x ≡ y → ⊥) → agree (x ∷ xs) (y ∷ ys) ≡ 0
head_other x y xs ys e = cond-false (eqb x y) _ _ (ne_eqb x y e)

agree_left : (xs ys : List ℕ) → agree xs ys ≤ length xs
agree_left xs ys = (common_prefix_len-le eqb xs ys).0

pub agree_right : (xs ys : List ℕ) → agree xs ys ≤ length ys
agree_right xs ys = (common_prefix_len-le eqb xs ys).1

-- as the pairs that stand at the front
pub agree_pairs : (xs ys : List ℕ) → prefix_len (λ (p : ℕ × ℕ). eqb p.0 p.1) (zip xs ys) ≡ agree xs ys
agree_pairs [] ys = refl
agree_pairs (x ∷ xs) [] = refl
agree_pairs (x ∷ xs) (y ∷ ys) = ap (λ n. cond (eqb x y) (1 + n) 0) (agree_pairs xs ys)

agree_same : (xs ys : List ℕ) → take (agree xs ys) xs ≡ take (agree xs ys) ys
agree_same [] ys = refl
agree_same (x ∷ xs) [] = refl
agree_same (x ∷ xs) (y ∷ ys) =
    ⊎_elim
    (λ e. let h = head_same x y xs ys e in ap (λ n. take n (x ∷ xs)) h ∙ (λ i. e i ∷ agree_same xs ys i) ∙ ap (λ n. take n (y ∷ ys)) (sym h))
    (λ e. let h = head_other x y xs ys e in ap (λ n. take n (x ∷ xs)) h ∙ ap (λ n. take n (y ∷ ys)) (sym h))
    (cases_eq x y)

-- what both begin with
agree_both : (p m z : List ℕ) → length p ≤ agree (p ++ m) (p ++ z)
agree_both [] m z = omega arith
agree_both (c ∷ p) m z = let h = agree_both p m z in omega (arith, head_same c c (p ++ m) (p ++ z) refl)

agree_front : (p m z w x : List ℕ) → p ++ m ≡ w → p ++ z ≡ x → length p ≤ agree w x
agree_front p m z w x e f = let g : agree (p ++ m) (p ++ z) ≡ agree w x = λ i. agree (e i) (f i) in omega (arith, agree_both p m z)

module _ {K : Type 0} (word : K → List ℕ) (apart : (a b : K) (u : List ℕ) → word b ≡ word a ++ u → a ≡ b) where
  pub chosen_free : Free (Chosen word)
  chosen_free =
      record {
        one = λ a b w v z y h k e.
            let same : a ≡ b =
            ⊎_elim
            (λ t. sym (apart b a t.0 (sym h ∙ t.1 ∙ ap (λ l. l ++ t.0) k)))
            (λ t. apart a b t.0 (sym k ∙ t.1 ∙ ap (λ l. l ++ t.0) h))
            (overlap w z v y e) in
            (h ∙ ap word same ∙ sym k, same);
      }

  pub chosen_lost : (x : List ℕ) (best : ℕ) (k : K) → best ≤ agree (word k) x → ((j : K) → agree (word j) x ≤ best) → ((j : K) → agree (word j) x < length (word j)) → Lost (Chosen word) x (drop best x)
  chosen_lost x best k some most short =
      let in' : best ≤ length x = omega (arith, agree_right (word k) x) in
      let same : take best (word k) ≡ take best x =
      sym (take-take best (agree (word k) x) (word k) some) ∙ ap (take best) (agree_same (word k) x) ∙ take-take best (agree (word k) x) x some in
      lost_by (Chosen word) chosen_free x (take best x) (drop best x) (sym (take-append-drop best x))
      (record { value = k; more = drop best (word k); word = ap (λ l. l ++ drop best (word k)) (sym same) ∙ take-append-drop best (word k) })
      (λ c z e g.
      let p = take best x ++ c ∷ [] in
      let whole : p ++ z ≡ x = append_assoc (take best x) (c ∷ []) z ∙ ap (λ l. take best x ++ l) (sym e) ∙ take-append-drop best x in
      let far = agree_front p g.more z (word g.value) x g.word whole in
      omega (arith, far, most g.value, length-append (take best x) (c ∷ []), length-take-le best x in'))
      (λ a e.
      let far = agree_front (word a) [] (drop best x) (word a) x (append-nil (word a)) (ap (λ l. l ++ drop best x) (sym e) ∙ take-append-drop best x) in
      omega (arith, far, short a))

  pub chosen_got : (x : List ℕ) (k : K) (n : ℕ) → n ≡ agree (word k) x → length (word k) ≤ n → Got (Chosen word) x k (drop n x)
  chosen_got x k n e h =
      record {
        front = word k;
        split = sym (take-append-drop n x) ∙ ap (λ l. l ++ drop n x) (ap (λ i. take i x) e ∙ sym (agree_same (word k) x) ∙ take_all (agree (word k) x) (word k) (omega arith));
        word = refl;
      }

element : {K : Type 0} (all : List K) → 0 < length all → K
element [] h = absurd (omega arith)
element (k ∷ all) h = k

pub literal_free : (t : List ℕ) → Free (Literal t)
literal_free t = chosen_free (λ _. t) (λ a b u e. refl)

pub literal_got : (t x : List ℕ) (n : ℕ) → n ≡ agree t x → length t ≤ n → Got (Literal t) x tt (drop n x)
literal_got t x = chosen_got (λ _. t) (λ a b u e. refl) x tt

pub literal_lost : (t x : List ℕ) (n : ℕ) → n ≡ agree t x → n < length t → Lost (Literal t) x (drop n x)
literal_lost t x n e h = chosen_lost (λ _. t) (λ a b u f. refl) x n tt (omega arith) (λ _. omega arith) (λ _. omega arith)

module _ {K : Type 0} (word : K → List ℕ) (all : List K) (x : List ℕ) where
  -- the word of k is not at the front of x, and agrees with it by no more than best
  abbrev Short : ℕ → K → Type 0
  Short best k = (agree (word k) x ≤ best) × (agree (word k) x < length (word k))

  -- the first i words are short, and some word agrees by best
  pub record Passed (i best : ℕ) : Type 0 where
    pub near : (k : K) × (best ≤ agree (word k) x)
    pub short : (j : ℕ) → j < i → (d : K) → Short best (get_or all j d)

  pub passed_more : (i best next n : ℕ) (k : K) → i < length all → k ≡ get_or all i k → n ≡ agree (word k) x → (n ≡ length (word k) → ⊥) → Passed i best → next ≡ max best n → Passed (i + 1) next
  passed_more i best next n k within here e part h most =
      record {
        near = ⊎_elim (λ (t : best < n). (k, omega arith)) (λ (t : n ≤ best). (h.near.0, omega (arith, h.near.1))) (cases_lt best n);
        short = λ j l d.
            ⊎_elim
            (λ (s : j ≡ i).
            let same : get_or all j d ≡ k = ap (λ t. get_or all t d) s ∙ sym (get_or_read all i k within here d) in
            let m : (agree (word k) x ≡ length (word k)) → ⊥ = λ f. part (e ∙ f) in
            let g = agree_left (word k) x in
            subst (Short next) (sym same) (omega arith, grind arith))
            (λ (s : j ≡ i → ⊥).
            let lt : j < i = grind arith in
            let o = h.short j lt d in
            (omega (arith, o.0), o.1))
            (cases_eq j i);
      }

  module _ (set : Vocabulary word all) where
    pub chosen_some : Some (Chosen word)
    chosen_some = let k = element all set.some in record { value = k; text = word k; word = refl }

    pub passed_none : Passed 0 0
    passed_none = record { near = (element all set.some, omega arith); short = λ j l d. absurd (omega arith) }

    pub passed_all : (col i best : ℕ) (e : Failed) → length all ≤ i → Passed i best → e.column ≡ col + best → Reading (Chosen word) x col (Err e)
    passed_all col i best e past h at =
        let each : (k : K) → Short best k = λ k. let q = set.whole k in subst (Short best) (q.2 k) (h.short q.0 (omega (arith, q.1)) k) in
        let n : best ≡ e.column - col = omega arith in
        let m : best ≤ length x = omega (arith, h.near.1, agree_right (word h.near.0) x) in (
          omega arith,
          omega arith,
          subst (λ k. Lost (Chosen word) x (drop k x)) n (chosen_lost word set.apart x best h.near.0 h.near.1 (λ k. (each k).0) (λ k. (each k).1)),
        )

    pub passed_one : (k : K) (n : ℕ) (y : List ℕ) → n ≡ agree (word k) x → length (word k) ≤ n → y ≡ drop n x → Got (Chosen word) x k y
    passed_one k n y e h at = subst (Got (Chosen word) x k) (sym at) (chosen_got word set.apart x k n e h)
