-- Reading one word after another.
use Rattle.std.proofs.Common.{◌≡◌, ℕ, ◌⊎◌, List, [], ◌∷◌, ◌++◌, sym, refl, ap, ◌∙◌, subst, inl, inr, ⊎_elim, append_assoc, append-nil, arith}
use Rattle.std.proofs.lemmas.List.{append_cancel_left}
use Rattle.lexis.specs.Lang.{Begun, Got, Lost, Join}

-- of two lists that begin a third, one begins the other
pub overlap : (w z v y : List ℕ) → w ++ z ≡ v ++ y → ((u : List ℕ) × (w ≡ v ++ u) × (y ≡ u ++ z)) ⊎ ((u : List ℕ) × (v ≡ w ++ u) × (z ≡ u ++ y))
overlap [] z v y e = inr (v, refl, e)
overlap (a ∷ w) z [] y e = inl (a ∷ w, refl, sym e)
overlap (a ∷ w) z (b ∷ v) y e =
    let heads : a ≡ b = cc in
    let tails : w ++ z ≡ v ++ y = cc in
    ⊎_elim
    (λ t. inl (t.0, (λ i. heads i ∷ t.1 i), t.2))
    (λ t. inr (t.0, (λ i. sym heads i ∷ t.1 i), t.2))
    (overlap w z v y tails)

-- no word of L begins another, and a word writes one value
pub record Free {A : Type 0} (L : List ℕ → A → Type 0) : Type 0 where
  pub one : (a b : A) (w v z y : List ℕ) → L w a → L v b → w ++ z ≡ v ++ y → (w ≡ v) × (a ≡ b)

-- L has a word
pub record Some {A : Type 0} (L : List ℕ → A → Type 0) : Type 0 where
  pub value : A
  pub text : List ℕ
  pub word : L text value

module _ {A B : Type 0} (L : List ℕ → A → Type 0) (M : A → List ℕ → B → Type 0) where
  pub got_then : (x y z : List ℕ) (a : A) (b : B) → Got L x a y → Got (M a) y b z → Got (Join L M) x b z
  got_then x y z a b g h =
      record {
        front = g.front ++ h.front;
        split = g.split ∙ ap (λ l. g.front ++ l) h.split ∙ sym (append_assoc g.front h.front z);
        word = record { value = a; left = g.front; right = h.front; whole = refl; first = g.word; second = h.word };
      }

  pub lost_first : (x y : List ℕ) → ((a : A) → Some (M a)) → Lost L x y → Lost (Join L M) x y
  lost_first x y full h =
      record {
        front = h.front;
        split = h.split;
        viable =
            let v = h.viable in
            let s = full v.value in
            record {
              value = s.value;
              more = v.more ++ s.text;
              word = record { value = v.value; left = h.front ++ v.more; right = s.text; whole = sym (append_assoc h.front v.more s.text); first = v.word; second = s.word };
            };
        stops = λ c z e v.
            let j = v.word in
            ⊎_elim
            (λ t. h.none j.value j.left (t.0 ++ z)
            (h.split ∙ ap (λ l. h.front ++ l) e ∙ sym (append_assoc h.front (c ∷ []) z) ∙ ap (λ l. l ++ z) t.1 ∙ append_assoc j.left t.0 z)
            j.first)
            (λ t. h.stops c z e (record { value = j.value; more = t.0; word = subst (λ l. L l j.value) t.1 j.first }))
            (overlap (h.front ++ c ∷ []) v.more j.left j.right j.whole);
        none = λ b w z e j. h.none j.value j.left (j.right ++ z) (e ∙ ap (λ l. l ++ z) j.whole ∙ append_assoc j.left j.right z) j.first;
      }

  pub lost_then : (x y z : List ℕ) (a : A) → Free L → Got L x a y → Lost (M a) y z → Lost (Join L M) x z
  lost_then x y z a free g h =
      record {
        front = g.front ++ h.front;
        split = g.split ∙ ap (λ l. g.front ++ l) h.split ∙ sym (append_assoc g.front h.front z);
        viable =
            let v = h.viable in
            record {
              value = v.value;
              more = v.more;
              word = record { value = a; left = g.front; right = h.front ++ v.more; whole = append_assoc g.front h.front v.more; first = g.word; second = v.word };
            };
        stops = λ c t e v.
            let j = v.word in
            let grouped : g.front ++ ((h.front ++ c ∷ []) ++ v.more) ≡ j.left ++ j.right = sym (simp append_assoc) ∙ j.whole in
            let same = free.one a j.value g.front j.left _ _ g.word j.first grouped in
            let rest : (h.front ++ c ∷ []) ++ v.more ≡ j.right = append_cancel_left g.front _ _ (grouped ∙ ap (λ l. l ++ j.right) (sym same.0)) in
            h.stops c t e (record {
              value = v.value;
              more = v.more;
              word = subst (λ l. M a l v.value) (sym rest) (subst (λ k. M k j.right v.value) (sym same.1) j.second);
            });
        none = λ b w t e j.
            let grouped : g.front ++ y ≡ j.left ++ (j.right ++ t) = sym g.split ∙ e ∙ ap (λ l. l ++ t) j.whole ∙ append_assoc j.left j.right t in
            let same = free.one a j.value g.front j.left _ _ g.word j.first grouped in
            let rest : y ≡ j.right ++ t = append_cancel_left g.front _ _ (grouped ∙ ap (λ l. l ++ (j.right ++ t)) (sym same.0)) in
            h.none b j.right t rest (subst (λ k. M k j.right b) (sym same.1) j.second);
      }

-- where no word begins another, the front that stops is no word
module _ {A : Type 0} (L : List ℕ → A → Type 0) where
  pub lost_by : Free L → (x front rest : List ℕ) → x ≡ front ++ rest → Begun L front → ((c : ℕ) (z : List ℕ) → rest ≡ c ∷ z → Begun L (front ++ c ∷ []) → ⊥) → ((a : A) → L front a → ⊥) → Lost L x rest
  lost_by free x front rest split viable stops unended =
      record {
        front = front;
        split = split;
        viable = viable;
        stops = stops;
        none = λ a w z e h.
            ⊎_elim
            (λ t.
            let same = free.one viable.value a (front ++ viable.more) w [] (t.0 ++ viable.more) viable.word h (append-nil _ ∙ ap (λ l. l ++ viable.more) t.1 ∙ append_assoc w t.0 viable.more) in
            let gone : t.0 ++ viable.more ≡ [] = append_cancel_left w _ _ (sym (append_assoc w t.0 viable.more) ∙ ap (λ l. l ++ viable.more) (sym t.1) ∙ same.0 ∙ sym (append-nil w)) in
            unended a (subst (λ l. L l a) (sym (t.1 ∙ ap (λ l. w ++ l) (left_none t.0 viable.more gone) ∙ append-nil w)) h))
            (λ t. longer t.0 a w z h t.1 t.2)
            (overlap front rest w z (sym split ∙ e));
      }
    where
      left_none : (u m : List ℕ) → u ++ m ≡ [] → u ≡ []
      left_none [] m e = refl
      left_none (y ∷ u) m e = absurd (let f : ◌≡◌ {A = ℕ} 0 1 = cc in omega arith)

      longer : (u : List ℕ) (a : A) (w z : List ℕ) → L w a → w ≡ front ++ u → rest ≡ u ++ z → ⊥
      longer [] a w z h e f = unended a (subst (λ l. L l a) (e ∙ append-nil front) h)
      longer (c ∷ u) a w z h e f = stops c (u ++ z) f (record { value = a; more = u; word = subst (λ l. L l a) (e ∙ sym (append_assoc front (c ∷ []) u)) h })
