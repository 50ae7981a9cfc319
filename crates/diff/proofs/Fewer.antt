-- A change list is as short as can be: each of its ranges is in exactly one of the two sets, and a
-- single entry alters one range.
use Rattle.std.proofs.Common.{◌≡◌, suc, ◌+◌, ◌≤◌, Bool, true, false, cond, not, ◌&&◌, ◌||◌, List, [], ◌∷◌, ◌++◌, map, length, filter, sym, refl, ap, ◌∙◌, subst, ⊎_elim, arith}
use Rattle.std.specs.List.{AllByRecursion}
use Rattle.std.proofs.lemmas.List.{length-map, length-append}
use Rattle.std.proofs.ByRecursion.{All-append, All-weaker}
use Rattle.std.proofs.lemmas.Bool.{both_ways, or_left, or_right, cond-true, cond-false, cond_both, not-true, not_from_true, not_from_false, cases_Bool}
use Rattle.model.specs.declared.changes.Change.{Change}
use Rattle.model.specs.declared.changes.Change.TheVariants.{Removal, Addition}
use Rattle.model.specs.Changes.{range_of}
use Rattle.model.specs.Ranges.{Range, same_range, listed}
use Rattle.diff.specs.ChangeLists.{missing, changes}
use Rattle.diff.specs.Laws.{Fewest}
use Rattle.diff.specs.Sets.{Set, altered, all_altered, Turns}
use Rattle.diff.proofs.Members.{same_decides, same_refl, cases_same, listed_missing, Distinct, distinct_kept, or_skip}

-- the ranges of xs but r
abbrev others : Range → List Range → List Range
others r xs = filter (λ x. not (same_range r x)) xs

others_absent : (r : Range) (xs : List Range) → listed xs r ≡ false → others r xs ≡ xs
others_absent r [] e = refl
others_absent r (x ∷ xs) e =
    ⊎_elim
    (λ d. absurd (both_ways (listed (x ∷ xs) r) e (or_left _ _ ((same_decides x r).1 d))))
    (λ d. cond-true _ _ _ (not_from_false (same_range r x) d.1) ∙ ap (λ l. x ∷ l) (others_absent r xs (sym (or_skip (same_range x r) (listed xs r) d.0) ∙ e)))
    (cases_same x r)

others_length : (r : Range) (xs : List Range) → Distinct xs → length xs ≤ suc (length (others r xs))
others_length r [] d = omega arith
others_length r (x ∷ xs) d =
    ⊎_elim
    (λ e. let l = ap length (cond-false (not (same_range r x)) (x ∷ others r xs) (others r xs) (not_from_true (same_range r x) ((same_decides r x).1 (sym e)))) in
    let k = ap length (others_absent r xs (subst (λ y. listed xs y ≡ false) e d.0)) in omega arith)
    (λ e. let l = ap length (cond-true (not (same_range r x)) (x ∷ others r xs) (others r xs) (not_from_false (same_range r x) e.1)) in
    let ih = others_length r xs d.1 in omega arith)
    (cases_same x r)

all_others : (P Q : Range → Type 0) (r : Range) → ((x : Range) → same_range r x ≡ false → P x → Q x) → (xs : List Range) → AllByRecursion P xs → AllByRecursion Q (others r xs)
all_others P Q r f [] a = tt
all_others P Q r f (x ∷ xs) a =
    cond_both (not (same_range r x)) (x ∷ others r xs) (others r xs) (AllByRecursion Q)
    (λ e. (f x (not-true (same_range r x) e) a.0, all_others P Q r f xs a.1))
    (λ _. all_others P Q r f xs a.1)

-- an entry leaves every range but its own
unaltered : (c : Change) (s : Set) (x : Range) → same_range (range_of c) x ≡ false → altered c s x ≡ s x
unaltered (Removal r) s x e = cond-false _ _ _ e
unaltered (Addition r) s x e = cond-false _ _ _ e

-- to alter so many ranges takes as many entries
pub at_least : (cs : List Change) (s t : Set) (xs : List Range) → Distinct xs → AllByRecursion (λ x. s x ≡ t x → ⊥) xs → ((r : Range) → all_altered cs s r ≡ t r) → length xs ≤ length cs
at_least [] s t [] d a turns = omega arith
at_least [] s t (x ∷ xs) d a turns = absurd (a.0 (turns x))
at_least (c ∷ cs) s t xs d a turns =
    let r = range_of c in
    let still = all_others (λ x. s x ≡ t x → ⊥) (λ x. altered c s x ≡ t x → ⊥) r (λ x e n k. n (sym (unaltered c s x e) ∙ k)) xs a in
    let ih = at_least cs (altered c s) t (others r xs) (distinct_kept (λ x. not (same_range r x)) xs d) still turns in
    let more = others_length r xs d in
    omega arith

distinct_append : (xs ys : List Range) → Distinct xs → Distinct ys → AllByRecursion (λ x. listed ys x ≡ false) xs → Distinct (xs ++ ys)
distinct_append [] ys d e a = e
distinct_append (x ∷ xs) ys d e a = (unlisted xs d.0, distinct_append xs ys d.1 e a.1)
  where
    unlisted : (zs : List Range) → listed zs x ≡ false → listed (zs ++ ys) x ≡ false
    unlisted [] z = a.0
    unlisted (w ∷ ws) z = ⊎_elim
        (λ t. absurd (both_ways (listed (w ∷ ws) x) z (or_left _ _ t)))
        (λ f. or_skip _ _ f ∙ unlisted ws (sym (or_skip (same_range w x) (listed ws x) f) ∙ z))
        (cases_Bool (same_range w x))

-- every range of a list is listed
pub all_listed : (xs : List Range) → AllByRecursion (λ r. listed xs r ≡ true) xs
all_listed [] = tt
all_listed (x ∷ xs) = (or_left _ _ (same_refl x), All-weaker (λ r. listed xs r ≡ true) (λ r. listed (x ∷ xs) r ≡ true) (λ r e. or_right (same_range x r) _ e) xs (all_listed xs))

-- each missing range is in exactly one of the two
abbrev OneSided : List Range → List Range → Range → Type 0
OneSided xs ys r = (listed xs r ≡ true) × (listed ys r ≡ false)

missing_in : (xs ys : List Range) → AllByRecursion (OneSided xs ys) (missing xs ys)
missing_in xs ys = go xs (all_listed xs)
  where
    go : (zs : List Range) → AllByRecursion (λ r. listed xs r ≡ true) zs → AllByRecursion (OneSided xs ys) (missing zs ys)
    go [] a = tt
    go (z ∷ zs) a =
        cond_both (not (listed ys z)) (z ∷ missing zs ys) (missing zs ys) (AllByRecursion (OneSided xs ys))
        (λ e. ((a.0, not-true (listed ys z) e), go zs a.1))
        (λ _. go zs a.1)

pub length_changes : (old new : List Range) → length (changes old new) ≡ length (missing old new) + length (missing new old)
length_changes old new =
    length-append (map Removal (missing old new)) (map Addition (missing new old)) ∙ (λ i. length-map (missing old new) Removal i + length-map (missing new old) Addition i)

no_fewer : (old new : List Range) → Distinct old → Distinct new → (cs : List Change) → Turns cs old new → length (changes old new) ≤ length cs
no_fewer old new d e cs turns =
    let outs = missing_in old new in
    let ins = missing_in new old in
    let apart : Distinct (missing old new ++ missing new old)
    = distinct_append (missing old new) (missing new old) (distinct_kept _ old d) (distinct_kept _ new e)
    (All-weaker (OneSided old new) (λ r. listed (missing new old) r ≡ false) (λ r h. listed_missing new old r ∙ ap (λ b. b && not (listed old r)) h.1) (missing old new) outs) in
    let differ : AllByRecursion (λ r. listed old r ≡ listed new r → ⊥) (missing old new ++ missing new old)
    = All-append (λ r. listed old r ≡ listed new r → ⊥) (missing old new) (missing new old)
    (All-weaker (OneSided old new) _ (λ r h k. both_ways (listed old r) (k ∙ h.1) h.0) (missing old new) outs)
    (All-weaker (OneSided new old) _ (λ r h k. both_ways (listed old r) h.1 (k ∙ h.0)) (missing new old) ins) in
    omega (arith, at_least cs (listed old) (listed new) (missing old new ++ missing new old) apart differ turns, length_changes old new, length-append (missing old new) (missing new old))

-- and it does turn the old set into the new one
altered_append : (cs ds : List Change) (s : Set) (r : Range) → all_altered (cs ++ ds) s r ≡ all_altered ds (all_altered cs s) r
altered_append [] ds s r = refl
altered_append (c ∷ cs) ds s r = altered_append cs ds (altered c s) r

twice : {X : Type 0} (a b : Bool) (x y : X) → cond b x (cond a x y) ≡ cond (a || b) x y
twice true true x y = refl
twice true false x y = refl
twice false b x y = refl

taken_out : (xs : List Range) (s : Set) (r : Range) → all_altered (map Removal xs) s r ≡ cond (listed xs r) false (s r)
taken_out [] s r = refl
taken_out (x ∷ xs) s r = taken_out xs (altered (Removal x) s) r ∙ twice (same_range x r) (listed xs r) false (s r)

put_in : (xs : List Range) (s : Set) (r : Range) → all_altered (map Addition xs) s r ≡ cond (listed xs r) true (s r)
put_in [] s r = refl
put_in (x ∷ xs) s r = put_in xs (altered (Addition x) s) r ∙ twice (same_range x r) (listed xs r) true (s r)

turns_changes : (old new : List Range) → Turns (changes old new) old new
turns_changes old new r =
    altered_append (map Removal (missing old new)) (map Addition (missing new old)) (listed old) r
    ∙ put_in (missing new old) (all_altered (map Removal (missing old new)) (listed old)) r
    ∙ ap (λ b. cond (listed (missing new old) r) true b) (taken_out (missing old new) (listed old) r)
    ∙ (λ i. cond (listed_missing new old r i) true (cond (listed_missing old new r i) false (listed old r)))
    ∙ go (listed old r) (listed new r)
  where
    go : (a b : Bool) → cond (b && not a) true (cond (a && not b) false a) ≡ b
    go true true = refl
    go true false = refl
    go false true = refl
    go false false = refl

pub fewest : (old new : List Range) → Distinct old → Distinct new → Fewest old new (changes old new)
fewest old new d e = record { turns = turns_changes old new; fewest = no_fewer old new d e }
