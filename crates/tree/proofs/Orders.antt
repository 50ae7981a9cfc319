-- Attachments put into the search order and taken out of it.
use Rattle.std.proofs.Common.{◌≡◌, ℕ, suc, ◌+◌, ◌-◌, ◌<◌, ◌≤◌, Bool, true, false, cond, not, ◌||◌, eqb, ltb, ◌⊎◌, List, [], ◌∷◌, ◌++◌, length, get_or, take, drop, set, ℤ, is_some, Some, None, filter, sym, refl, ap, ◌∙◌, inl, inr, ⊎_elim, append_assoc, append-nil, arith, length-append, length-drop}
use lib.Signed.{lt_z}
use Rattle.std.specs.List.{AllByRecursion, copy_within, position, prefix_len, position_or_len}
use Rattle.std.proofs.ByRecursion.{all_kept_by, All-weaker}
use Rattle.std.proofs.lemmas.List.{drop_all, drop-take, length-take-le, set_at, take_all, take_at, take_more, take-take}
use Rattle.std.proofs.lemmas.List.Edits.{take-paste}
use Rattle.std.proofs.lemmas.Option.{none-some}
use Rattle.std.proofs.lemmas.Int.{ints}
use Rattle.std.proofs.lemmas.Bool.{and_from, and_parts, both_ways, cases_Bool, cases_lt, cond_both, cond-false, cond-true, eqb-false, eqb-true, le-ltb, lt-ltb, ne_eqb, not-true, or_from, or_parts}
use Rattle.tree.specs.declared.regions.Attachment.{Attachment}
use Rattle.tree.specs.Order.{attachment_of, has_child, once, sorted_from, sorted, inserted, without_child}

pub attached_some : (n : ℕ) (cs : List Attachment) → is_some (attachment_of n cs) ≡ has_child n cs
attached_some n [] = refl
attached_some n (c ∷ cs) = at (eqb c.child n) (attached_some n cs)
  where
    at : (b : Bool) → is_some (attachment_of n cs) ≡ has_child n cs → is_some (cond b (Some c) (attachment_of n cs)) ≡ (b || has_child n cs)
    at true e = refl
    at false e = e

-- How many there are.

pub length_without : (n : ℕ) (cs : List Attachment) → length (without_child n cs) ≤ length cs
length_without n [] = omega arith
length_without n (c ∷ cs) = at (eqb c.child n) (length_without n cs)
  where
    at : (b : Bool) → length (without_child n cs) ≤ length cs → length (cond (not b) (c ∷ without_child n cs) (without_child n cs)) ≤ length (c ∷ cs)
    at true e = omega arith
    at false e = omega arith

pub fewer_without : (n : ℕ) (cs : List Attachment) → has_child n cs ≡ true → length (without_child n cs) < length cs
fewer_without n [] e = absurd (both_ways false refl e)
fewer_without n (c ∷ cs) e = at (eqb c.child n) e (length_without n cs) (fewer_without n cs)
  where
    at : (b : Bool) → (b || has_child n cs) ≡ true → length (without_child n cs) ≤ length cs → (has_child n cs ≡ true → length (without_child n cs) < length cs) → length (cond (not b) (c ∷ without_child n cs) (without_child n cs)) < length (c ∷ cs)
    at true e le ih = omega arith
    at false e le ih = let lt = ih e in omega arith

pub without_none : (n : ℕ) (cs : List Attachment) → has_child n cs ≡ false → without_child n cs ≡ cs
without_none n [] e = refl
without_none n (c ∷ cs) e = at (eqb c.child n) e (without_none n cs)
  where
    at : (b : Bool) → (b || has_child n cs) ≡ false → (has_child n cs ≡ false → without_child n cs ≡ cs) → cond (not b) (c ∷ without_child n cs) (without_child n cs) ≡ c ∷ cs
    at true e ih = absurd (both_ways true e refl)
    at false e ih = ap (λ l. c ∷ l) (ih e)

not_is : (b : Bool) → not b ≡ false → b ≡ true
not_is true e = refl
not_is false e = sym e

pub one_less : (n : ℕ) (cs : List Attachment) → once cs ≡ true → length cs ≤ length (without_child n cs) + 1
one_less n [] e = omega arith
one_less n (c ∷ cs) e =
    let parts = and_parts (not (has_child c.child cs)) (once cs) e in
    cond_both (not (eqb c.child n)) (c ∷ without_child n cs) (without_child n cs) (λ l. length (c ∷ cs) ≤ length l + 1)
    (λ _. let ih = one_less n cs parts.1 in omega arith)
    (λ same.
    let here : eqb c.child n ≡ true = not_is (eqb c.child n) same in
    let none : has_child n cs ≡ false = ap (λ m. has_child m cs) (sym (eqb-true _ _ here)) ∙ not-true (has_child c.child cs) parts.0 in
    let all = ap length (without_none n cs none) in
    omega arith)

-- Each child once.

pub has_kept : (p : Attachment → Bool) (n : ℕ) (cs : List Attachment) → has_child n cs ≡ false → has_child n (filter p cs) ≡ false
has_kept p n [] e = refl
has_kept p n (c ∷ cs) e =
    let parts = or_parts (eqb c.child n) (has_child n cs) e in
    let rest = has_kept p n cs parts.1 in
    cond_both (p c) (c ∷ filter p cs) (filter p cs) (λ l. has_child n l ≡ false) (λ _. or_from _ _ parts.0 rest) (λ _. rest)

pub once_kept : (p : Attachment → Bool) (cs : List Attachment) → once cs ≡ true → once (filter p cs) ≡ true
once_kept p [] e = refl
once_kept p (c ∷ cs) e =
    let parts = and_parts (not (has_child c.child cs)) (once cs) e in
    let rest = once_kept p cs parts.1 in
    cond_both (p c) (c ∷ filter p cs) (filter p cs) (λ l. once l ≡ true)
    (λ _. and_from _ _ (ap not (has_kept p c.child cs (not-true (has_child c.child cs) parts.0))) rest)
    (λ _. rest)

pub has_without : (n : ℕ) (cs : List Attachment) → has_child n (without_child n cs) ≡ false
has_without n [] = refl
has_without n (c ∷ cs) =
    cond_both (not (eqb c.child n)) (c ∷ without_child n cs) (without_child n cs) (λ l. has_child n l ≡ false)
    (λ other. or_from _ _ (not-true (eqb c.child n) other) (has_without n cs))
    (λ _. has_without n cs)

has_inserted : (n : ℕ) (a : Attachment) (cs : List Attachment) → eqb a.child n ≡ false → has_child n cs ≡ false → has_child n (inserted a cs) ≡ false
has_inserted n a [] ne e = or_from _ _ ne e
has_inserted n a (c ∷ cs) ne e =
    let parts = or_parts (eqb c.child n) (has_child n cs) e in
    cond_both (lt_z a.priority c.priority) (c ∷ inserted a cs) (a ∷ c ∷ cs) (λ l. has_child n l ≡ false)
    (λ _. or_from _ _ parts.0 (has_inserted n a cs ne parts.1))
    (λ _. or_from _ _ ne e)

pub once_inserted : (a : Attachment) (cs : List Attachment) → has_child a.child cs ≡ false → once cs ≡ true → once (inserted a cs) ≡ true
once_inserted a [] none e = refl
once_inserted a (c ∷ cs) none e =
    let parts = and_parts (not (has_child c.child cs)) (once cs) e in
    let other = or_parts (eqb c.child a.child) (has_child a.child cs) none in
    let ne : eqb a.child c.child ≡ false = ne_eqb _ _ (λ d. eqb-false _ _ other.0 (sym d)) in
    cond_both (lt_z a.priority c.priority) (c ∷ inserted a cs) (a ∷ c ∷ cs) (λ l. once l ≡ true)
    (λ _. and_from _ _ (ap not (has_inserted c.child a cs ne (not-true (has_child c.child cs) parts.0))) (once_inserted a cs other.1 parts.1))
    (λ _. and_from _ _ (ap not none) e)

-- Higher priority first.

abbrev pub Behind : Attachment → List Attachment → Type 0
Behind c cs = AllByRecursion (λ d. lt_z c.priority d.priority ≡ false) cs

not_less : (x y z : ℤ) → lt_z x y ≡ false → lt_z y z ≡ false → lt_z x z ≡ false
not_less x y z p q = grind (arith, ints)

less_not : (x y : ℤ) → lt_z x y ≡ true → lt_z y x ≡ false
less_not x y p = grind (arith, ints)

pub behind_all : (c d : Attachment) (cs : List Attachment) → lt_z c.priority d.priority ≡ false → Behind d cs → Behind c cs
behind_all c d cs e h = All-weaker (λ x. lt_z d.priority x.priority ≡ false) (λ x. lt_z c.priority x.priority ≡ false) (λ x k. not_less c.priority d.priority x.priority e k) cs h

pub sorted_behind : (c : Attachment) (cs : List Attachment) → sorted_from c cs ≡ true → Behind c cs
sorted_behind c [] e = tt
sorted_behind c (d ∷ ds) e =
    let parts = and_parts (not (lt_z c.priority d.priority)) (sorted_from d ds) e in
    let first = not-true (lt_z c.priority d.priority) parts.0 in
    (first, behind_all c d ds first (sorted_behind d ds parts.1))

pub sorted_rest : (c : Attachment) (cs : List Attachment) → sorted_from c cs ≡ true → sorted cs ≡ true
sorted_rest c [] e = refl
sorted_rest c (d ∷ ds) e = (and_parts (not (lt_z c.priority d.priority)) (sorted_from d ds) e).1

sorted_more : (c : Attachment) (cs : List Attachment) → Behind c cs → sorted cs ≡ true → sorted (c ∷ cs) ≡ true
sorted_more c [] h e = refl
sorted_more c (d ∷ ds) h e = and_from _ _ (ap not h.0) e

pub sorted_kept : (p : Attachment → Bool) (cs : List Attachment) → sorted cs ≡ true → sorted (filter p cs) ≡ true
sorted_kept p [] e = refl
sorted_kept p (c ∷ cs) e =
    let rest = sorted_kept p cs (sorted_rest c cs e) in
    cond_both (p c) (c ∷ filter p cs) (filter p cs) (λ l. sorted l ≡ true)
    (λ _. sorted_more c (filter p cs) (all_kept_by p (λ d. lt_z c.priority d.priority ≡ false) cs (sorted_behind c cs e)) rest)
    (λ _. rest)

pub all_inserted : (P : Attachment → Type 0) (a : Attachment) (cs : List Attachment) → P a → AllByRecursion P cs → AllByRecursion P (inserted a cs)
all_inserted P a [] p h = (p, tt)
all_inserted P a (c ∷ cs) p h =
    cond_both (lt_z a.priority c.priority) (c ∷ inserted a cs) (a ∷ c ∷ cs) (AllByRecursion P) (λ _. (h.0, all_inserted P a cs p h.1)) (λ _. (p, h))

pub sorted_inserted : (a : Attachment) (cs : List Attachment) → sorted cs ≡ true → sorted (inserted a cs) ≡ true
sorted_inserted a [] e = refl
sorted_inserted a (c ∷ cs) e =
    let behind = sorted_behind c cs e in
    cond_both (lt_z a.priority c.priority) (c ∷ inserted a cs) (a ∷ c ∷ cs) (λ l. sorted l ≡ true)
    (λ up. sorted_more c (inserted a cs) (all_inserted (λ d. lt_z c.priority d.priority ≡ false) a cs (less_not a.priority c.priority up) behind) (sorted_inserted a cs (sorted_rest c cs e)))
    (λ down. sorted_more a (c ∷ cs) (down, behind_all a c cs down behind) e)

-- The places in the array.

first_place : (b : Bool) (n k : ℕ) → k ≡ cond b (1 + n) 0 → ((b ≡ true) × (k ≡ suc n)) ⊎ ((b ≡ false) × (k ≡ 0))
first_place true n k e = inl (refl, omega arith)
first_place false n k e = inr (refl, e)

-- the first place that the new attachment a may take
pub inserted_split : (a : Attachment) (cs : List Attachment) (n : ℕ) → n ≡ prefix_len (λ c. lt_z a.priority c.priority) cs → inserted a cs ≡ take n cs ++ a ∷ drop n cs
inserted_split a [] n e = rw e refl
inserted_split a (c ∷ cs) n e = ⊎_elim
    (λ h. rw h.1 (cond-true _ _ _ h.0 ∙ ap (λ l. c ∷ l) (inserted_split a cs _ refl)))
    (λ h. rw h.1 (cond-false _ _ _ h.0))
    (first_place (lt_z a.priority c.priority) (prefix_len (λ c. lt_z a.priority c.priority) cs) n e)

-- the place of region n
pub without_split : (n : ℕ) (cs : List Attachment) (k : ℕ) → k ≡ position_or_len (λ c. eqb c.child n) cs → once cs ≡ true → without_child n cs ≡ take k cs ++ drop (k + 1) cs
without_split n [] k e o = rw e refl
without_split n (c ∷ cs) k e o =
    let parts = and_parts (not (has_child c.child cs)) (once cs) o in ⊎_elim
    (λ h.
    let m = position_or_len (λ d. eqb d.child n) cs in
    let more : k + 1 ≡ suc (m + 1) = omega (arith, h.1) in
    cond-true _ _ _ h.0 ∙ ap (λ l. c ∷ l) (without_split n cs m refl parts.1) ∙ sym (λ i. take (h.1 i) (c ∷ cs) ++ drop (more i) (c ∷ cs)))
    (λ h.
    let here : eqb c.child n ≡ true = not_is (eqb c.child n) h.0 in
    let none : has_child n cs ≡ false = ap (λ m. has_child m cs) (sym (eqb-true _ _ here)) ∙ not-true (has_child c.child cs) parts.0 in
    rw h.1 (cond-false _ _ _ h.0 ∙ without_none n cs none))
    (first_place (not (eqb c.child n)) (prefix_len (λ c. not (eqb c.child n)) cs) k e)

-- the gap at `at` closes
pub closed : (xs : List Attachment) (n at : ℕ) → at < n → n ≤ length xs → take (n - 1) (copy_within xs (at + 1) n at) ≡ take at (take n xs) ++ drop (at + 1) (take n xs)
closed xs n at lt fits =
    let k = n - (at + 1) in
    let all : n - 1 ≡ at + k = omega arith in
    let whole : n ≡ (at + 1) + k = omega arith in
    let long : k ≤ length (drop (at + 1) xs) = simp length-drop (omega arith) in
    ap (λ m. take m (copy_within xs (at + 1) n at)) all
    ∙ take-paste xs at (drop (at + 1) xs) k (omega arith) long
    ∙ (λ i. sym (take-take at n xs (omega arith)) i ++ sym (drop-take (at + 1) k xs) i)
    ∙ ap (λ m. take at (take n xs) ++ drop (at + 1) (take m xs)) (sym whole)

-- a gap opens at `at`, and a stands in it
pub opened : (xs : List Attachment) (n at : ℕ) (a : Attachment) → at ≤ n → n < length xs → take (n + 1) (set (copy_within xs at n (at + 1)) at a) ≡ take at (take n xs) ++ a ∷ drop at (take n xs)
opened xs n at a le fits =
    let k = n - at in
    let y = get_or xs at a in
    let rest = take k (drop at xs) ++ drop ((at + 1) + k) xs in
    let whole : n ≡ at + k = omega arith in
    let front : take (at + 1) xs ≡ take at xs ++ y ∷ [] = take_more xs at a (omega arith) in
    let split : copy_within xs at n (at + 1) ≡ take at xs ++ y ∷ rest =
    append_assoc (take (at + 1) xs) (take k (drop at xs)) _ ∙ ap (λ l. l ++ rest) front ∙ append_assoc (take at xs) (y ∷ []) rest in
    let head : length (take at xs) ≡ at = length-take-le at xs (omega arith) in
    let placed = ap (λ l. set l at a) split ∙ set_at (take at xs) y rest a at head in
    let long : k ≤ length (drop at xs) = simp length-drop (omega arith) in
    let mid : length (take k (drop at xs)) ≡ k = length-take-le k (drop at xs) long in
    let kept : List Attachment = take at xs ++ a ∷ take k (drop at xs) in
    let count : length kept ≡ n + 1 = length-append (take at xs) _ ∙ omega arith in
    ap (take (n + 1)) (placed ∙ sym (append_assoc (take at xs) (a ∷ take k (drop at xs)) (drop ((at + 1) + k) xs)))
    ∙ take_at kept _ (n + 1) count
    ∙ (λ i. sym (take-take at n xs le) i ++ a ∷ sym (drop-take at k xs) i)
    ∙ ap (λ m. take at (take n xs) ++ a ∷ drop at (take m xs)) (sym whole)

-- where as many stay as there were at most, all stay
pub all_stay : (n : ℕ) (cs : List Attachment) (m : ℕ) → length cs ≤ m → length (without_child n cs) ≡ m → without_child n cs ≡ cs
all_stay n cs m le e = ⊎_elim
    (λ has. let lt = fewer_without n cs has in absurd (omega arith))
    (without_none n cs)
    (cases_Bool (has_child n cs))

-- where region n is found, and where it is not
pub place_found : (n : ℕ) (cs : List Attachment) (k : ℕ) → Some k ≡ position (λ c. eqb c.child n) cs → (k < length cs) × (k ≡ position_or_len (λ c. eqb c.child n) cs)
place_found n cs k e = at (position_or_len (λ c. eqb c.child n) cs) e
  where
    at : (m : ℕ) → Some k ≡ cond (ltb m (length cs)) (Some m) None → (k < length cs) × (k ≡ m)
    at m e = ⊎_elim
        (λ lt. let is : Some k ≡ Some m = e ∙ cond-true _ _ _ (lt-ltb m (length cs) lt) in let same : k ≡ m = cc in (omega arith, same))
        (λ le. absurd (none-some k (sym (e ∙ cond-false _ _ _ (le-ltb m (length cs) le)))))
        (cases_lt m (length cs))

pub place_none : (n : ℕ) (cs : List Attachment) → position (λ c. eqb c.child n) cs ≡ None → once cs ≡ true → without_child n cs ≡ cs
place_none n cs e o =
    let m = position_or_len (λ c. eqb c.child n) cs in
    let past : length cs ≤ m = ⊎_elim (λ lt. absurd (none-some m (sym e ∙ cond-true _ _ _ (lt-ltb m (length cs) lt)))) (λ le. le) (cases_lt m (length cs)) in
    without_split n cs m refl o ∙ (λ i. take_all m cs past i ++ drop_all (m + 1) cs (omega arith) i) ∙ append-nil cs

pub once_without : (n : ℕ) (cs : List Attachment) → once cs ≡ true → once (without_child n cs) ≡ true
once_without n cs e = once_kept (λ c. not (eqb c.child n)) cs e

pub sorted_without : (n : ℕ) (cs : List Attachment) → sorted cs ≡ true → sorted (without_child n cs) ≡ true
sorted_without n cs e = sorted_kept (λ c. not (eqb c.child n)) cs e
