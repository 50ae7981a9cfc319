-- Items in a row: what a reader does that goes over one after another.
use Rattle.std.proofs.Common.{◌≡◌, ℕ, ◌≤◌, List, [], ◌∷◌, ◌++◌, Ok, Err, Some as Just, None, Result, Option, sym, refl, ap, ◌∙◌, subst, append_assoc}
use Rattle.std.specs.Result.{IsErrAnd}
use Rattle.std.proofs.lemmas.List.{append_cancel_left}
use Rattle.lexis.specs.declared.lost.Lost.{Lost as Failed}
use Rattle.lexis.specs.declared.tokens.Divider.{Divider}
use Rattle.lexis.specs.declared.reader.Reader.{Reader}
use Rattle.lexis.specs.Lang.{Chosen, Begun, Got, Lost, Step, Join, Then, After, Literal}
use Rattle.lexis.specs.Moving.{Moves, rest_of, lost_of}
use Rattle.lexis.specs.Numeral.{numeral, Number}
use Rattle.lexis.specs.Tokens.{mark}
use Rattle.lexis.proofs.Joins.{Free, Some, lost_first, lost_then}
use Rattle.lexis.proofs.Picks.{literal_free}
use Rattle.lexis.proofs.Steps.{fresh, went, stuck, goes, fails}

-- a reader that was lost stays, whatever the words are
module _ {A B : Type 0} (L : List ℕ → A → Type 0) (M : List ℕ → B → Type 0) where
  step_by : (o : Option Failed) (x y : List ℕ) (e : Failed) → (Lost L x y → Lost M x y) → Step L o x (Err e) y → Step M o x (Err e) y
  step_by None x y e f h = f h
  step_by (Just d) x y e f h = let same : e ≡ d = (let k = h.0 in cc) in (ap Err same, h.1)

  fails_by : (s t : Reader) (e : Failed) → (Lost L (rest_of s) (rest_of t) → Lost M (rest_of s) (rest_of t)) → Moves L s (Err e) t → Moves M s (Err e) t
  fails_by s t e f h = record { step = step_by (lost_of s) (rest_of s) (rest_of t) e f h.step; lost = h.lost; reached = h.reached; failed = h.failed }

-- the same words, with the values under f
module _ {A B : Type 0} (L : List ℕ → A → Type 0) (M : List ℕ → B → Type 0) (f : A → B) where
  pub free_like : ((w : List ℕ) (b : B) → M w b → (a : A) × L w a × (f a ≡ b)) → Free L → Free M
  free_like from free =
      record {
        one = λ a b w v z y h k e.
            let p = from w a h in
            let q = from v b k in
            let s = free.one p.0 q.0 w v z y p.1 q.1 e in
            (s.0, sym p.2 ∙ ap f s.1 ∙ q.2);
      }

  module _ (to : (w : List ℕ) (a : A) → L w a → M w (f a)) where
    got_like : (x y : List ℕ) (a : A) → Got L x a y → Got M x (f a) y
    got_like x y a h = record { front = h.front; split = h.split; word = to _ _ h.word }

    pub moves_like : (s t : Reader) (a : A) → Moves L s (Ok a) t → Moves M s (Ok (f a)) t
    moves_like s t a h = goes M s t (f a) (fresh L s t a h) h.lost h.reached (got_like (rest_of s) (rest_of t) a (went L s t a h))

    module _ (from : (w : List ℕ) (b : B) → M w b → (a : A) × L w a) where
      begun_like : (p : List ℕ) → Begun M p → Begun L p
      begun_like p h = let q = from _ _ h.word in record { value = q.0; more = h.more; word = q.1 }

      lost_like : (x y : List ℕ) → Lost L x y → Lost M x y
      lost_like x y h =
          record {
            front = h.front;
            split = h.split;
            viable = let v = h.viable in record { value = f v.value; more = v.more; word = to _ _ v.word };
            stops = λ c z e g. h.stops c z e (begun_like _ g);
            none = λ b w z e g. let q = from w b g in h.none q.0 w z e q.1;
          }

      pub fails_like : (s t : Reader) (e : Failed) → Moves L s (Err e) t → Moves M s (Err e) t
      fails_like s t e h = fails_by L M s t e (lost_like (rest_of s) (rest_of t)) h

-- an error that is passed on
pub fails_as : {A : Type 0} (L : List ℕ → A → Type 0) (s t : Reader) (r : Result A Failed) (e : Failed) → IsErrAnd r (λ d. d ≡ e) → Moves L s (Err e) t → Moves L s r t
fails_as L s t (Ok a) e h m = absurd h
fails_as L s t (Err d) e h m = subst (λ k. Moves L s (Err k) t) (sym h) m

-- an item, and then one that depends on its value
module _ {A B : Type 0} (L : List ℕ → A → Type 0) (M : A → List ℕ → B → Type 0) where
  pub join_free : Free L → ((a : A) → Free (M a)) → Free (Join L M)
  join_free f g =
      record {
        one = λ p q w v z y h k e.
            let grouped : h.left ++ (h.right ++ z) ≡ k.left ++ (k.right ++ y) =
            sym (append_assoc h.left h.right z) ∙ ap (λ l. l ++ z) (sym h.whole) ∙ e ∙ ap (λ l. l ++ y) k.whole ∙ append_assoc k.left k.right y in
            let s = f.one h.value k.value h.left k.left _ _ h.first k.first grouped in
            let rest : h.right ++ z ≡ k.right ++ y = append_cancel_left h.left _ _ (grouped ∙ ap (λ l. l ++ (k.right ++ y)) (sym s.0)) in
            let t = (g h.value).one p q h.right k.right z y h.second (subst (λ a. M a k.right q) (sym s.1) k.second) rest in
            (h.whole ∙ (λ i. s.0 i ++ t.0 i) ∙ sym k.whole, t.1);
      }

-- an item, and then another
module _ {A B : Type 0} (L : List ℕ → A → Type 0) (M : List ℕ → B → Type 0) where
  -- the second, with the value of the first
  abbrev Next : A → List ℕ → A × B → Type 0
  Next a w p = (a ≡ p.0) × M w p.1

  joined : (w : List ℕ) (p : A × B) → Join L Next w p → Then L M w p
  joined w p j = record { left = j.left; right = j.right; whole = j.whole; first = subst (L j.left) j.second.0 j.first; second = j.second.1 }

  parted : (w : List ℕ) (p : A × B) → Then L M w p → (q : A × B) × Join L Next w q × (q ≡ p)
  parted w p t = (p, record { value = p.0; left = t.left; right = t.right; whole = t.whole; first = t.first; second = (refl, t.second) }, refl)

  apart : (w : List ℕ) (p : A × B) → Then L M w p → (q : A × B) × Join L Next w q
  apart w p t = let q = parted w p t in (q.0, q.1)

  next_free : Free M → (a : A) → Free (Next a)
  next_free g a =
      record {
        one = λ p q w v z y h k e.
            let t = g.one p.1 q.1 w v z y h.1 k.1 e in
            (t.0, λ i. ((sym h.0 ∙ k.0) i, t.1 i));
      }

  pub then_free : Free L → Free M → Free (Then L M)
  then_free f g = free_like (Join L Next) (Then L M) (λ p. p) parted (join_free L Next f (next_free g))

  later_some : Some (Then L M) → Some M
  later_some s = record { value = s.value.1; text = s.word.right; word = s.word.second }

  pub moves_then : Free L → (s t u : Reader) (a : A) (b : B) → Moves L s (Ok a) t → Moves M t (Ok b) u → Moves (Then L M) s (Ok (a, b)) u
  moves_then free s t u a b g h =
      let f = went L s t a g in
      let k = went M t u b h in
      goes (Then L M) s u (a, b) (fresh L s t a g) h.lost (h.reached ∙ g.reached)
      (record { front = f.front ++ k.front; split = f.split ∙ ap (λ l. f.front ++ l) k.split ∙ sym (append_assoc f.front k.front (rest_of u)); word = record { left = f.front; right = k.front; whole = refl; first = f.word; second = k.word } })

  -- the first item fails
  pub fails_first : Some M → (s t : Reader) (e : Failed) → Moves L s (Err e) t → Moves (Then L M) s (Err e) t
  fails_first some s t e g =
      fails_like (Join L Next) (Then L M) (λ p. p) joined apart s t e
      (fails_by L (Join L Next) s t e (lost_first L Next (rest_of s) (rest_of t) (λ a. record { value = (a, some.value); text = some.text; word = (refl, some.word) })) g)

  -- the second item fails
  pub fails_then : Free L → (s t u : Reader) (a : A) (e : Failed) → Moves L s (Ok a) t → Moves M t (Err e) u → Moves (Then L M) s (Err e) u
  fails_then free s t u a e g h =
      let k = fails_like M (Next a) (λ b. (a, b)) (λ w b m. (refl, m)) (λ w p m. (p.1, m.1)) t u e h in
      fails_like (Join L Next) (Then L M) (λ p. p) joined apart s u e
      (fails (Join L Next) s u e (fresh L s t a g) h.lost (h.reached ∙ g.reached) h.failed
      (lost_then L Next (rest_of s) (rest_of t) (rest_of u) a free (went L s t a g) (stuck (Next a) t u e g.lost k)))

-- a text, and then an item
module _ {A : Type 0} (x : List ℕ) (L : List ℕ → A → Type 0) where
  met : (w : List ℕ) (p : Unit {0} × A) → Then (Literal x) L w p → After x L w p.1
  met w p t = record { more = t.right; whole = t.whole ∙ ap (λ l. l ++ t.right) t.first; word = t.second }

  cut : (w : List ℕ) (a : A) → After x L w a → (p : Unit {0} × A) × Then (Literal x) L w p × (p.1 ≡ a)
  cut w a h = ((tt, a), record { left = x; right = h.more; whole = h.whole; first = refl; second = h.word }, refl)

  pub after_free : Free L → Free (After x L)
  after_free free = free_like (Then (Literal x) L) (After x L) (λ p. p.1) cut (then_free (Literal x) L (literal_free x) free)

  fails_after : (s t : Reader) (e : Failed) → Moves (Then (Literal x) L) s (Err e) t → Moves (After x L) s (Err e) t
  fails_after s t e h = fails_like (Then (Literal x) L) (After x L) (λ p. p.1) met (λ w a k. let q = cut w a k in (q.0, q.1)) s t e h

  pub fails_before : Some L → (s t : Reader) (e : Failed) → Moves (Literal x) s (Err e) t → Moves (After x L) s (Err e) t
  fails_before some s t e g = fails_after s t e (fails_first (Literal x) L some s t e g)

  pub moves_after : (s t u : Reader) (r : Result A Failed) → Moves (Literal x) s (Ok tt) t → Moves L t r u → Moves (After x L) s r u
  moves_after s t u (Ok a) g h = moves_like (Then (Literal x) L) (After x L) (λ p. p.1) met s u (tt, a) (moves_then (Literal x) L (literal_free x) s t u tt a g h)
  moves_after s t u (Err e) g h = fails_after s u e (fails_then (Literal x) L (literal_free x) s t u tt e g h)

-- a reader that went from s to t over the first items of W; what it does over the rest M makes up what it does over W
pub record Past {A B : Type 0} (W : List ℕ → B → Type 0) (s : Reader) (M : List ℕ → A → Type 0) (f : A → B) (t : Reader) : Type 0 where
  pub some : Some M
  pub goes : (a : A) (u : Reader) → Moves M t (Ok a) u → Moves W s (Ok (f a)) u
  pub fails : (e : Failed) (u : Reader) → Moves M t (Err e) u → Moves W s (Err e) u

module _ {A B C : Type 0} {W : List ℕ → C → Type 0} {L : List ℕ → A → Type 0} {M : List ℕ → B → Type 0} {f : A × B → C} {s t u : Reader} where
  -- one item more
  pub past_item : {a : A} → Free L → Past W s (Then L M) f t → Moves L t (Ok a) u → Past W s M (λ b. f (a, b)) u
  past_item {a} free p g =
      record {
        some = later_some L M p.some;
        goes = λ b v h. p.goes (a, b) v (moves_then L M free t u v a b g h);
        fails = λ e v h. p.fails e v (fails_then L M free t u v a e g h);
      }

  -- the next item fails
  pub past_fails : {e : Failed} {r : Result C Failed} → Past W s (Then L M) f t → Moves L t (Err e) u → IsErrAnd r (λ d. d ≡ e) → Moves W s r u
  past_fails {e} {r} p g h = fails_as W s u r e h (p.fails e u (fails_first L M (later_some L M p.some) t u e g))

-- the last item
module _ {A B : Type 0} {W : List ℕ → B → Type 0} {M : List ℕ → A → Type 0} {f : A → B} {s t u : Reader} where
  pub past_last : {a : A} {b : B} → b ≡ f a → Past W s M f t → Moves M t (Ok a) u → Moves W s (Ok b) u
  past_last {a} e p g = subst (λ k. Moves W s (Ok k) u) (sym e) (p.goes a u g)

  pub past_lost : {e : Failed} {r : Result B Failed} → Past W s M f t → Moves M t (Err e) u → IsErrAnd r (λ d. d ≡ e) → Moves W s r u
  past_lost {e} {r} p g h = fails_as W s u r e h (p.fails e u g)

-- a text as a word of items in a row
pub word_item : {A B : Type 0} {L : List ℕ → A → Type 0} {M : List ℕ → B → Type 0} {a : A} {b : B} (v r : List ℕ) → L v a → M r b → Then L M (v ++ r) (a, b)
word_item v r l m = record { left = v; right = r; whole = refl; first = l; second = m }

pub word_number : {B : Type 0} {M : List ℕ → B → Type 0} {b : B} {most : ℕ} (x r : List ℕ) (end : Divider) (n : ℕ) → n ≤ most → M r b → Then (After x (Number 16 most end)) M (x ++ (numeral 16 n ++ mark end ∷ r)) (n, b)
word_number {M = M} {b = b} {most = most} x r end n h m =
    let v : List ℕ = numeral 16 n ++ mark end ∷ [] in
    subst (λ l. Then (After x (Number 16 most end)) M l (n, b)) (append_assoc x v r ∙ ap (λ l. x ++ l) (append_assoc (numeral 16 n) (mark end ∷ []) r))
    (word_item (x ++ v) r (record { more = v; whole = refl; word = record { text = refl; small = h } }) m)

pub word_choice : {K B : Type 0} {M : List ℕ → B → Type 0} {b : B} (word : K → List ℕ) (x r : List ℕ) (k : K) → M r b → Then (After x (Chosen word)) M (x ++ (word k ++ r)) (k, b)
word_choice {M = M} {b = b} word x r k m =
    subst (λ l. Then (After x (Chosen word)) M l (k, b)) (append_assoc x (word k) r) (word_item (x ++ word k) r (record { more = word k; whole = refl; word = refl }) m)

-- and back
pub text_item : {A B : Type 0} {L : List ℕ → A → Type 0} {M : List ℕ → B → Type 0} {w : List ℕ} {p : A × B} (v r : List ℕ) (t : Then L M w p) → t.left ≡ v → t.right ≡ r → w ≡ v ++ r
text_item v r t d e = t.whole ∙ (λ i. d i ++ e i)

pub text_number : {B : Type 0} {M : List ℕ → B → Type 0} {w : List ℕ} {p : ℕ × B} {most : ℕ} {end : Divider} (x r : List ℕ) (t : Then (After x (Number 16 most end)) M w p) → t.right ≡ r → w ≡ x ++ (numeral 16 p.0 ++ mark end ∷ r)
text_number {p = p} {end = end} x r t e =
    let v : List ℕ = numeral 16 p.0 ++ mark end ∷ [] in
    text_item (x ++ v) r t (t.first.whole ∙ ap (λ l. x ++ l) t.first.word.text) e ∙ append_assoc x v r ∙ ap (λ l. x ++ l) (append_assoc (numeral 16 p.0) (mark end ∷ []) r)

pub text_choice : {K B : Type 0} {M : List ℕ → B → Type 0} {w : List ℕ} {p : K × B} (word : K → List ℕ) (x r : List ℕ) (t : Then (After x (Chosen word)) M w p) → t.right ≡ r → w ≡ x ++ (word p.0 ++ r)
text_choice {p = p} word x r t e = text_item (x ++ word p.0) r t (t.first.whole ∙ ap (λ l. x ++ l) t.first.word) e ∙ append_assoc x (word p.0) r
