-- What the tests of paths find.
use Rattle.std.proofs.Common.{◌≡◌, ℕ, zero, suc, ◌+◌, ◌<◌, ◌≤◌, Bool, true, false, ◌||◌, eqb, ◌⊎◌, List, [], ◌∷◌, ◌++◌, map, length, Some, None, Decides, Option, sym, refl, ap, ◌∙◌, subst, inl, inr, ⊎_elim, arith}
use Rattle.std.specs.List.{AllByRecursion, list_any}
use Rattle.std.proofs.ByRecursion.{All-weaker}
use Rattle.std.proofs.lemmas.List.{get_or_past}
use Rattle.std.proofs.lemmas.Bool.{both_ways, or_left, or_right, or_cases, cond-true, cond-false, cond_both, cases_Bool, cases_lt, cases_eq, eqb-true, eq-eqb}
use Rattle.std.proofs.lemmas.Bool.Decides.{same_from_decides}
use Rattle.tree.specs.declared.regions.Body.{Body}
use Rattle.tree.specs.declared.regions.Body.TheVariants.{Container, Leaf, Alias}
use Rattle.tree.specs.declared.regions.Region.{Region}
use Rattle.tree.specs.declared.regions.Attachment.{Attachment}
use Rattle.tree.specs.Model.{Model, region_at, under}
use Rattle.tree.specs.Paths.{Holds, Edge, holds, shows, Path, stay, go, ComesBack, TooLong, Lawful}
use Rattle.edits.specs.PathTests.{targets, targets_of, onward, below, goes_on, leads_to, comes_back, too_long, Decided}
use Rattle.edits.specs.Limits.{Low}
use Rattle.edits.specs.Marks.{children}
use Rattle.edits.specs.Edges.{Short, OneMore}
use Rattle.edits.proofs.Limits.{Bounded, low_from}

abbrev pub In : ℕ → List ℕ → Type 0
In x [] = ⊥
In x (y ∷ ys) = (y ≡ x) ⊎ In x ys

any_some : (p : ℕ → Bool) (xs : List ℕ) → list_any p xs ≡ true → (x : ℕ) × In x xs × (p x ≡ true)
any_some p [] e = absurd (both_ways false refl e)
any_some p (x ∷ xs) e = ⊎_elim (λ h. (x, inl refl, h)) (λ h. let r = any_some p xs h in (r.0, inr r.1, r.2)) (or_cases (p x) (list_any p xs) e)

any_true : (p : ℕ → Bool) (xs : List ℕ) (x : ℕ) → In x xs → p x ≡ true → list_any p xs ≡ true
any_true p [] x i h = absurd i
any_true p (y ∷ ys) x (inl e) h = or_left _ _ (ap p e ∙ h)
any_true p (y ∷ ys) x (inr i) h = or_right (p y) _ (any_true p ys x i h)

in_below : (n x : ℕ) → x < n → In x (below n)
in_below zero x h = absurd (omega arith)
in_below (suc n) x h = ⊎_elim (λ e. inl (sym e)) (λ ne. inr (in_below n x (omega arith))) (cases_eq x n)

in_left : (xs ys : List ℕ) (x : ℕ) → In x xs → In x (xs ++ ys)
in_left [] ys x i = absurd i
in_left (z ∷ zs) ys x (inl e) = inl e
in_left (z ∷ zs) ys x (inr i) = inr (in_left zs ys x i)

in_right : (xs ys : List ℕ) (x : ℕ) → In x ys → In x (xs ++ ys)
in_right [] ys x i = i
in_right (z ∷ zs) ys x i = inr (in_right zs ys x i)

in_either : (xs ys : List ℕ) (x : ℕ) → In x (xs ++ ys) → In x xs ⊎ In x ys
in_either [] ys x i = inr i
in_either (z ∷ zs) ys x (inl e) = inl (inl e)
in_either (z ∷ zs) ys x (inr i) = ⊎_elim (λ h. inl (inr h)) inr (in_either zs ys x i)

-- An edge is one of those that lead on.

held_in : (r s : ℕ) (cs : List Attachment) → Holds r s cs → In s (children r cs)
held_in r s [] h = h
held_in r s (c ∷ cs) (inl h) = subst (λ l. In s (map (λ c. c.child) l)) (sym (cond-true (eqb c.parent r) (c ∷ under r cs) (under r cs) (eq-eqb _ _ h.0))) (inl h.1)
held_in r s (c ∷ cs) (inr h) =
    let rest = held_in r s cs h in
    cond_both (eqb c.parent r) (c ∷ under r cs) (under r cs) (λ l. In s (map (λ c. c.child) l)) (λ _. inr rest) (λ _. rest)

in_held : (r s : ℕ) (cs : List Attachment) → In s (children r cs) → Holds r s cs
in_held r s [] i = i
in_held r s (c ∷ cs) i = ⊎_elim
    (λ e. ⊎_elim (λ h. inl (eqb-true _ _ e, h)) (λ h. inr (in_held r s cs h)) (its_own e i))
    (λ e. inr (in_held r s cs (subst (λ l. In s (map (λ c. c.child) l)) (cond-false (eqb c.parent r) (c ∷ under r cs) (under r cs) e) i)))
    (cases_Bool (eqb c.parent r))
  where
    its_own : eqb c.parent r ≡ true → In s (children r (c ∷ cs)) → (c.child ≡ s) ⊎ In s (children r cs)
    its_own e i = subst (λ l. In s (map (λ c. c.child) l)) (cond-true (eqb c.parent r) (c ∷ under r cs) (under r cs) e) i

target_in : (s f : ℕ) (b : Body) → b ≡ Alias s f → In s (targets b)
target_in s f b e = subst (λ x. In s (targets x)) (sym e) (inl refl)

in_target : (s : ℕ) (b : Body) → In s (targets b) → (f : ℕ) × (b ≡ Alias s f)
in_target s Container i = absurd i
in_target s (Leaf d k) i = absurd i
in_target s (Alias q f) (inl e) = (f, ap (λ x. Alias x f) e)
in_target s (Alias q f) (inr i) = absurd i

pub in_targets : (t : Model) (r s : ℕ) (o : Option Region) → region_at t r ≡ o → In s (targets_of o) → Edge t r s
in_targets t r s None e i = absurd i
in_targets t r s (Some g) e i = let h = in_target s g.body i in shows g h.0 e h.1

edge_in : (t : Model) (r s : ℕ) → Edge t r s → In s (onward t r)
edge_in t r s (holds h) = in_left (children r t.attachments) _ s (held_in r s t.attachments h)
edge_in t r s (shows g f e is) = in_right (children r t.attachments) _ s (subst (λ o. In s (targets_of o)) (sym e) (target_in s f g.body is))

in_edge : (t : Model) (r s : ℕ) → In s (onward t r) → Edge t r s
in_edge t r s i = ⊎_elim (λ h. holds (in_held r s t.attachments h)) (λ h. in_targets t r s (region_at t r) refl h) (in_either (children r t.attachments) (targets_of (region_at t r)) s i)

-- The tests find paths, and no path is missed.

goes_path : (t : Model) (n r : ℕ) → goes_on t n r ≡ true → (s : ℕ) × Path t r n s
unfolding goes_on
goes_path t zero r e = (r, stay)
goes_path t (suc n) r e =
    let h = any_some (goes_on t n) (onward t r) e in
    let w = goes_path t n h.0 h.2 in
    (w.0, go (in_edge t r h.0 h.1) w.1)

path_goes : (t : Model) {n r s : ℕ} → Path t r n s → goes_on t n r ≡ true
unfolding goes_on
path_goes t stay = refl
path_goes t (go {r = r} {q = q} {n = n} e w) = any_true (goes_on t n) (onward t r) q (edge_in t r q e) (path_goes t w)

leads_path : (t : Model) (n r s : ℕ) → leads_to t n s r ≡ true → (k : ℕ) × Path t r (suc k) s
unfolding leads_to
leads_path t zero r s e = absurd (both_ways false refl e)
leads_path t (suc n) r s e =
    let h = any_some (λ q. eqb q s || leads_to t n s q) (onward t r) e in
    let first = in_edge t r h.0 h.1 in
    ⊎_elim
    (λ here. (0, go first (subst (λ x. Path t h.0 0 x) (eqb-true h.0 s here) stay)))
    (λ on. let w = leads_path t n h.0 s on in (suc w.0, go first w.1))
    (or_cases (eqb h.0 s) (leads_to t n s h.0) h.2)

path_leads : (t : Model) (n k r s : ℕ) → k < n → Path t r (suc k) s → leads_to t n s r ≡ true
unfolding leads_to
path_leads t zero k r s lt w = absurd (omega arith)
path_leads t (suc n) k r s lt (go {q = q} e w) = any_true (λ q. eqb q s || leads_to t n s q) (onward t r) q (edge_in t r q e) (rest k lt q w (λ j l v. path_leads t n j q s l v))
  where
    rest : (k : ℕ) → k < suc n → (q : ℕ) → Path t q k s → ((j : ℕ) → j < n → Path t q (suc j) s → leads_to t n s q ≡ true) → (eqb q s || leads_to t n s q) ≡ true
    rest zero lt q stay ih = or_left _ _ (eq-eqb q q refl)
    rest (suc j) lt q w ih = or_right (eqb q s) _ (ih j (omega arith) w)

-- Where edges begin.

pub record Numbered (t : Model) : Type 0 where
  pub long : length t.regions ≡ 64
  pub parents : AllByRecursion (λ (c : Attachment). c.parent < 64) t.attachments

pub numbered : (t : Model) → Bounded t → Numbered t
numbered t h = record { long = h.numbered; parents = All-weaker Low (λ (c : Attachment). c.parent < 64) (λ c low. low.parent) t.attachments (low_from t.attachments h.offsets) }

never : (g : Region) (o : Option Region) → o ≡ Some g → o ≡ None → ⊥
never g o e d = let z : ◌≡◌ {A = ℕ} 0 1 = cc in omega arith

region_low : (t : Model) (r : ℕ) (g : Region) → length t.regions ≡ 64 → region_at t r ≡ Some g → r < 64
region_low t r g long e = ⊎_elim (λ lt. lt) (λ le. absurd (never g (region_at t r) e (get_or_past t.regions r None (omega arith)))) (cases_lt r 64)

held_low : (r s : ℕ) (cs : List Attachment) → AllByRecursion (λ (c : Attachment). c.parent < 64) cs → Holds r s cs → r < 64
held_low r s [] a h = absurd h
held_low r s (c ∷ cs) a (inl h) = let e = h.0 in let lt = a.0 in omega arith
held_low r s (c ∷ cs) a (inr h) = held_low r s cs a.1 h

edge_low : (t : Model) (r s : ℕ) → Numbered t → Edge t r s → r < 64
edge_low t r s n (holds h) = held_low r s t.attachments n.parents h
edge_low t r s n (shows g f e is) = region_low t r g n.long e

path_low : (t : Model) (r k s : ℕ) → Numbered t → Path t r (suc k) s → r < 64
path_low t r k s n (go {q = q} e w) = edge_low t r q n e

pub leads_low : (t : Model) (n r s : ℕ) → Numbered t → leads_to t n s r ≡ true → r < 64
leads_low t n r s h e = let w = leads_path t n r s e in path_low t r w.0 s h w.1

-- Too long.

front : (t : Model) (k : ℕ) {r n s : ℕ} → k ≤ n → Path t r n s → (q : ℕ) × Path t r k q
front t zero {r} le w = (r, stay)
front t (suc k) le stay = absurd (omega arith)
front t (suc k) le (go e w) = let h = front t k (omega arith) w in (h.0, go e h.1)

pub long_decided : (t : Model) → Numbered t → Decides (too_long t) (TooLong t)
unfolding too_long
long_decided t n = (
  λ e. let h = any_some (goes_on t 9) (below 64) e in let w = goes_path t 9 h.0 h.2 in (h.0, w.0, 9, omega arith, w.1),
  λ l. let h = front t 9 l.3 l.4 in any_true (goes_on t 9) (below 64) l.0 (in_below 64 l.0 (path_low t l.0 8 h.0 n h.1)) (path_goes t h.1),
)

pub short_from : (t : Model) → (TooLong t → ⊥) → Short t
short_from t no-long r s n w = ⊎_elim (λ lt. omega arith) (λ le. absurd (no-long (r, s, n, le, w))) (cases_lt n 9)

-- A path that comes back can be gone again and again.

join : (t : Model) {a i b j c : ℕ} → Path t a i b → Path t b j c → (k : ℕ) × (k ≡ i + j) × Path t a k c
join t {j = j} stay v = (j, omega arith, v)
join t (go e u) v = let h = join t u v in let n = h.1 in (suc h.0, omega arith, go e h.2)

laps : (t : Model) (k r n : ℕ) → Path t r (suc n) r → (m : ℕ) × (k ≤ m) × Path t r m r
laps t zero r n w = (0, omega arith, stay)
laps t (suc k) r n w =
    let more = laps t k r n w in
    let all = join t w more.2 in
    let le = more.1 in
    let is = all.1 in
    (all.0, omega arith, all.2)

pub short_lawful : (t : Model) → Short t → Lawful t
short_lawful t short = (
  λ c. let w = laps t 9 c.0 c.1 c.2 in let far = w.1 in let near = short c.0 c.0 w.0 w.2 in omega arith,
  λ l. let far = l.3 in let near = short l.0 l.1 l.2 l.4 in omega arith,
)

-- Coming back, where one edge is new.

module _ (t later : Model) (p q : ℕ) (one : OneMore t later p q) where
  mono : {r n s : ℕ} → Path t r n s → Path later r n s
  mono stay = stay
  mono (go {r = r} {q = x} e w) = go (one.old r x e) (mono w)

  -- up to the first new edge
  record First (r s : ℕ) : Type 0 where
    steps : ℕ
    old : Path t r steps p
    new : Edge later p q
    others : ℕ
    rest : Path later q others s

  first : {r n s : ℕ} → Path later r n s → Path t r n s ⊎ First r s
  first stay = inl stay
  first (go {r = r} {q = x} {s = s} {n = n} e w) = ⊎_elim
      (λ d. ⊎_elim (λ u. inl (go d u)) (λ f. inr (record { steps = suc f.steps; old = go d f.old; new = f.new; others = f.others; rest = f.rest })) (first w))
      (λ d. inr (record { steps = 0; old = subst (λ y. Path t r 0 y) d.0 stay; new = subst (λ y. Edge later y q) d.0 (subst (λ y. Edge later r y) d.1 e); others = n; rest = subst (λ y. Path later y n s) d.1 w }))
      (one.new r x e)

  -- from the last new edge on
  last : {r n s : ℕ} → Path later r n s → ((k : ℕ) × Path t r k s) ⊎ ((k : ℕ) × Path t q k s)
  last stay = inl (0, stay)
  last (go {r = r} {q = x} {s = s} e w) = ⊎_elim
      (λ u. ⊎_elim (λ d. inl (suc u.0, go d u.1)) (λ d. inr (u.0, subst (λ y. Path t y u.0 s) d.1 u.1)) (one.new r x e))
      inr
      (last w)

  old_way : {k s : ℕ} → Path later q k s → (j : ℕ) × Path t q j s
  old_way w = ⊎_elim (λ h. h) (λ h. h) (last w)

  back_from_new : Short t → ComesBack later → Edge later p q × (leads_to later 9 p p ≡ true)
  back_from_new short c = ⊎_elim (λ u. absurd ((short_lawful t short).0 (c.0, c.1, u))) found (first c.2)
    where
      found : First c.0 c.0 → Edge later p q × (leads_to later 9 p p ≡ true)
      found f =
          let v = old_way f.rest in
          let w = join t v.1 f.old in
          let near = short q p w.0 w.2 in
          let lt : w.0 < 9 = omega arith in
          (f.new, path_leads later 9 w.0 p p lt (go f.new (mono w.2)))

  leads_decided : Short t → Decides (leads_to later 9 p p) (ComesBack later)
  leads_decided short = (λ e. let w = leads_path later 9 p p e in (p, w.0, w.1), λ c. (back_from_new short c).1)

  back_decided : Short t → Numbered later → Decides (comes_back later) (ComesBack later)
  unfolding comes_back
  back_decided short num = (
    λ e. let h = any_some (λ r. leads_to later 9 r r) (below 64) e in let w = leads_path later 9 h.0 h.0 h.2 in (h.0, w.0, w.1),
    λ c. let h = back_from_new short c in any_true (λ r. leads_to later 9 r r) (below 64) p (in_below 64 p (edge_low later p q num h.0)) h.1,
  )

  pub decided : Short t → Numbered later → Decided later
  decided short num = record { back = back_decided short num; long = long_decided later num }

  -- the one test that the new edge asks for
  pub back_is : Short t → Numbered later → leads_to later 9 p p ≡ comes_back later
  back_is short num = same_from_decides _ _ (leads_decided short) (back_decided short num)

-- A tree with no new edge.
module _ (t later : Model) (back : (r s : ℕ) → Edge later r s → Edge t r s) where
  older : {r n s : ℕ} → Path later r n s → Path t r n s
  older stay = stay
  older (go {r = r} {q = x} e w) = go (back r x e) (older w)

  pub short_older : Short t → Short later
  short_older short r s n w = short r s n (older w)
