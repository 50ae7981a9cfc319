-- Rounds over the edges of a tree, which mark regions.
use Rattle.std.proofs.Common.{◌≡◌, ℕ, zero, suc, ◌+◌, ◌^◌, ◌<◌, ◌≤◌, Bool, true, false, cond, ◌&&◌, ◌||◌, eqb, ltb, leb, List, [], ◌∷◌, ◌++◌, map, length, get_or, take, Some, None, Decides, Option, sym, refl, ap, ◌∙◌, subst, ⊎_elim, add-one, arith}
use Rattle.std.specs.List.{ContainsAt as Has, AllByRecursion, list_any}
use Rattle.std.proofs.ByRecursion.{All-append}
use Rattle.std.proofs.Math.Bool.{and_comm, or_assoc, or_comm, or-false}
use Rattle.std.proofs.lemmas.List.Folds.{list_any-append}
use Rattle.std.proofs.lemmas.List.{get_or_default, get_or_past, take_more}
use Rattle.std.proofs.lemmas.Bool.{and_parts, cases_Bool, cases_lt, cond_both, ltb-true}
use Rattle.std.proofs.lemmas.Bool.Decides.{same_from_decides, Decides-like, Decides-below_or}
use Rattle.tree.specs.declared.regions.Body.{Body}
use Rattle.tree.specs.declared.regions.Body.TheVariants.{Container, Leaf, Alias}
use Rattle.tree.specs.declared.regions.Region.{Region}
use Rattle.tree.specs.declared.regions.Attachment.{Attachment}
use Rattle.tree.specs.Bounds.{bounded_body}
use Rattle.tree.specs.Model.{Model, under, region_at}
use Rattle.edits.specs.Limits.{Low}
use Rattle.edits.specs.declared.marks.Marks.{Marks}
use Rattle.edits.specs.Marks.{IsSetOf, has, children}
use Rattle.edits.specs.PathTests.{onward, targets, targets_of, below, goes_on, leads_to, reaches}
use Rattle.edits.proofs.Walks.{numbered, leads_low}
use Rattle.edits.proofs.Limits.{Bounded, low_from, Fine, fine_from, fine_anywhere}

children_more : (p : ℕ → Bool) (k : ℕ) (cs : List Attachment) (c : Attachment) → list_any p (children k (cs ++ c ∷ [])) ≡ (list_any p (children k cs) || (eqb c.parent k && p c.child))
children_more p k [] c = at (eqb c.parent k)
  where
    at : (b : Bool) → list_any p (map (λ c. c.child) (cond b (c ∷ []) [])) ≡ (b && p c.child)
    at true = or-false (p c.child)
    at false = refl
children_more p k (d ∷ cs) c = at (eqb d.parent k) (children_more p k cs c)
  where
    at : (b : Bool) → list_any p (children k (cs ++ c ∷ [])) ≡ (list_any p (children k cs) || (eqb c.parent k && p c.child)) →
        list_any p (map (λ c. c.child) (cond b (d ∷ under k (cs ++ c ∷ [])) (under k (cs ++ c ∷ [])))) ≡ (list_any p (map (λ c. c.child) (cond b (d ∷ under k cs) (under k cs))) || (eqb c.parent k && p c.child))
    at true e = ap (λ b. p d.child || b) e ∙ sym (or_assoc (p d.child) _ _)
    at false e = e

-- one more attachment of a round, whose child is marked or not
pub parent_added : (p : ℕ → Bool) (cs : List Attachment) (i : ℕ) (d : Attachment) (was now later : Marks) (b : Bool) → i < length cs →
    ((k : ℕ) → k < 64 → has now k ≡ (has was k || list_any p (children k (take i cs)))) →
    b ≡ p (get_or cs i d).child →
    ((k : ℕ) → k < 64 → has later k ≡ ((b && eqb (get_or cs i d).parent k) || has now k)) →
    (k : ℕ) → k < 64 → has later k ≡ (has was k || list_any p (children k (take (i + 1) cs)))
parent_added p cs i d was now later b lt inv child step k low =
    let c = get_or cs i d in
    let after : list_any p (children k (take (i + 1) cs)) ≡ (list_any p (children k (take i cs)) || (eqb c.parent k && p c.child)) =
    ap (λ l. list_any p (children k l)) (take_more cs i d lt) ∙ children_more p k (take i cs) c in
    step k low
    ∙ or_comm (b && eqb c.parent k) (has now k)
    ∙ ap (λ x. has now k || x) (and_comm b (eqb c.parent k))
    ∙ (λ j. inv k low j || (eqb c.parent k && child j))
    ∙ or_assoc (has was k) (list_any p (children k (take i cs))) (eqb c.parent k && p c.child)
    ∙ ap (λ x. has was k || x) (sym after)

-- both rounds
pub stepped : (p : ℕ → Bool) (t : Model) (none mid later : Marks) → IsSetOf (λ _. false) none →
    ((k : ℕ) → k < 64 → has mid k ≡ (has none k || list_any p (children k t.attachments))) →
    ((k : ℕ) → has later k ≡ (has mid k || list_any p (targets_of (region_at t k)))) →
    IsSetOf (λ k. list_any p (onward t k)) later
stepped p t none mid later empty children' aliases k lt =
    aliases k
    ∙ ap (λ b. b || list_any p (targets_of (region_at t k))) (children' k lt ∙ ap (λ b. b || list_any p (children k t.attachments)) (empty k lt))
    ∙ sym (list_any-append p (children k t.attachments) (targets_of (region_at t k)))

any_same : (p q : ℕ → Bool) (xs : List ℕ) → AllByRecursion (λ x. x < 64) xs → ((x : ℕ) → x < 64 → p x ≡ q x) → list_any p xs ≡ list_any q xs
any_same p q [] low same = refl
any_same p q (x ∷ xs) low same = λ i. same x low.0 i || any_same p q xs low.1 same i

-- where edges lead
children_low : (k : ℕ) (cs : List Attachment) → AllByRecursion Low cs → AllByRecursion (λ x. x < 64) (children k cs)
children_low k [] h = tt
children_low k (c ∷ cs) h = cond_both (eqb c.parent k) (c ∷ under k cs) (under k cs) (λ l. AllByRecursion (λ x. x < 64) (map (λ c. c.child) l)) (λ _. (h.0.child, children_low k cs h.1)) (λ _. children_low k cs h.1)

target_low : (g : Option Region) → Fine g → AllByRecursion (λ x. x < 64) (targets_of g)
target_low None e = tt
target_low (Some g) e = in_body g.body (and_parts (leb g.size (2 ^ 40)) _ (and_parts (leb 1 g.size) _ e).1).1
  where
    in_body : (b : Body) → bounded_body b ≡ true → AllByRecursion (λ x. x < 64) (targets b)
    in_body Container e = tt
    in_body (Leaf d k) e = tt
    in_body (Alias s f) e = (ltb-true s 64 (and_parts (ltb s 64) _ e).0, tt)

onward_low : (t : Model) (k : ℕ) → Bounded t → AllByRecursion (λ x. x < 64) (onward t k)
onward_low t k h =
    All-append (λ x. x < 64) (children k t.attachments) (targets_of (region_at t k)) (children_low k t.attachments (low_from t.attachments h.offsets)) (target_low (region_at t k) (fine_anywhere t.regions k (fine_from t.regions h.sizes)))

-- one round more
pub reach_more : (t : Model) (last : Marks) (always : ℕ → Bool) (was mid now : Marks) (n : ℕ) → Bounded t → IsSetOf (reaches t (has last) always n) was →
    ((k : ℕ) → k < 64 → has mid k ≡ (always k || has was k)) → IsSetOf (λ k. list_any (has mid) (onward t k)) now →
    IsSetOf (reaches t (has last) always (n + 1)) now
unfolding reaches
reach_more t last always was mid now n h inv joined step =
    subst (λ i. IsSetOf (reaches t (has last) always i) now) (sym (add-one n)) (λ k lt.
    step k lt ∙ any_same _ _ (onward t k) (onward_low t k h) (λ x low. joined x low ∙ ap (λ b. always x || b) (inv x low)))

pub reach_first : (t : Model) (last : Marks) (always : ℕ → Bool) → IsSetOf (reaches t (has last) always 0) last
unfolding reaches
reach_first t last always k lt = refl

-- what is reached depends on the two sets alone
reach_same : (t : Model) (f g a b : ℕ → Bool) → Bounded t → ((k : ℕ) → k < 64 → f k ≡ g k) → ((k : ℕ) → k < 64 → a k ≡ b k) → (n k : ℕ) → k < 64 → reaches t f a n k ≡ reaches t g b n k
unfolding reaches
reach_same t f g a b h last always zero k lt = last k lt
reach_same t f g a b h last always (suc n) k lt = any_same _ _ (onward t k) (onward_low t k h) (λ x low i. always x low i || reach_same t f g a b h last always n x low i)

goes_is : (t : Model) (n k : ℕ) → reaches t (λ _. true) (λ _. false) n k ≡ goes_on t n k
unfolding reaches goes_on
goes_is t zero k = refl
goes_is t (suc n) k = λ i. list_any (λ q. goes_is t n q i) (onward t k)

leads_is : (t : Model) (s n k : ℕ) → reaches t (λ _. false) (λ q. eqb q s) n k ≡ leads_to t n s k
unfolding reaches leads_to
leads_is t s zero k = refl
leads_is t s (suc n) k = λ i. list_any (λ q. eqb q s || leads_is t s n q i) (onward t k)

pub goes_on_set : (t : Model) (all m : Marks) (none : ℕ → Bool) (n : ℕ) → Bounded t → IsSetOf (λ _. true) all → ((k : ℕ) → k < 64 → none k ≡ false) → IsSetOf (reaches t (has all) none n) m → IsSetOf (goes_on t n) m
goes_on_set t all m none n h every empty is k lt = is k lt ∙ reach_same t _ _ _ _ h every empty n k lt ∙ goes_is t n k

pub leads_to_set : (t : Model) (none m : Marks) (only : ℕ → Bool) (s n : ℕ) → Bounded t → IsSetOf (λ _. false) none → ((k : ℕ) → k < 64 → only k ≡ eqb k s) → IsSetOf (reaches t (has none) only n) m → IsSetOf (leads_to t n s) m
leads_to_set t none m only s n h empty one is k lt = is k lt ∙ reach_same t _ _ _ _ h empty one n k lt ∙ leads_is t s n k

-- the numbers of regions
below_low : (n : ℕ) → n ≤ 64 → AllByRecursion (λ x. x < 64) (below n)
below_low zero le = tt
below_low (suc n) le = (omega arith, below_low n (omega arith))

pub any_of_set : (f : ℕ → Bool) (m : Marks) → IsSetOf f m → list_any (has m) (below 64) ≡ list_any f (below 64)
any_of_set f m is = any_same (has m) f (below 64) (below_low 64 (omega arith)) is

-- a mark that is set
pub any_marked : (m : Marks) (r : Bool) → Decides r (Has m.marked true) → r ≡ list_any (has m) (below 64)
any_marked m r d = same_from_decides r (list_any f (below 64)) d (Decides-like (list_any f (below 64)) to from (Decides-below_or f (λ k. f k ≡ true) (λ n. list_any f (below n)) (λ k. (λ e. e, λ e. e)) refl (λ _. refl) 64))
  where
    f : ℕ → Bool
    f = has m

    to : (k : ℕ) × (k < 64) × (f k ≡ true) → Has m.marked true
    to h =
        let long = m.whole in
        let lt = h.1 in
        let in' : h.0 < length m.marked = omega arith in
        (h.0, in', λ d. get_or_default m.marked h.0 d false in' ∙ h.2)

    from : Has m.marked true → (k : ℕ) × (k < 64) × (f k ≡ true)
    from h =
        let long = m.whole in
        let lt = h.1 in
        let in' : h.0 < 64 = omega arith in
        (h.0, in', h.2 false)

-- where no region is, no path begins
pub leads_at : (t : Model) (s n : ℕ) (m : Marks) → Bounded t → IsSetOf (leads_to t n s) m → has m s ≡ leads_to t n s s
leads_at t s n m h is = ⊎_elim (is s) (λ le. past le ∙ sym (none le)) (cases_lt s 64)
  where
    past : 64 ≤ s → has m s ≡ false
    past le = get_or_past m.marked s false (let long = m.whole in omega arith)

    none : 64 ≤ s → leads_to t n s s ≡ false
    none le = ⊎_elim (λ e. absurd (let low = leads_low t n s s (numbered t h) e in omega arith)) (λ e. e) (cases_Bool (leads_to t n s s))
