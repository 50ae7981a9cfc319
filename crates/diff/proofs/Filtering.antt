-- The entries of some ranges are the entries between these ranges of the two maps.
use Rattle.std.proofs.Common.{◌≡◌, Bool, true, not, List, [], ◌∷◌, ◌++◌, map, filter, sym, refl, ap, ◌∙◌, ⊎_elim}
use Rattle.std.proofs.lemmas.List.Elements.{filter-append}
use Rattle.std.proofs.lemmas.Bool.{cond-true, cond-false, cond_both, cases_Bool}
use Rattle.model.specs.declared.changes.Change.TheVariants.{Removal, Addition}
use Rattle.model.specs.Changes.{range_of}
use Rattle.model.specs.Ranges.{Range, listed}
use Rattle.diff.specs.ChangeLists.{missing, changes}
use Rattle.diff.proofs.Members.{and_true, listed_kept}

pub kept_map : {X Y : Type 0} (f : X → Y) (q : Y → Bool) (xs : List X) → filter q (map f xs) ≡ map f (filter (λ x. q (f x)) xs)
kept_map f q [] = refl
kept_map f q (x ∷ xs) =
    let rest = kept_map f q xs in
    ⊎_elim
    (λ e. cond-true (q (f x)) _ _ e ∙ ap (λ l. f x ∷ l) rest ∙ ap (map f) (sym (cond-true (q (f x)) (x ∷ filter (λ x. q (f x)) xs) (filter (λ x. q (f x)) xs) e)))
    (λ e. cond-false (q (f x)) _ _ e ∙ rest ∙ ap (map f) (sym (cond-false (q (f x)) (x ∷ filter (λ x. q (f x)) xs) (filter (λ x. q (f x)) xs) e)))
    (cases_Bool (q (f x)))

-- two filters in either order
kept_both : {X : Type 0} (p q r : X → Bool) → ((x : X) → p x ≡ true → q x ≡ r x) → (xs : List X) → filter p (filter q xs) ≡ filter r (filter p xs)
kept_both p q r same [] = refl
kept_both p q r same (x ∷ xs) =
    let rest = kept_both p q r same xs in
    ⊎_elim
    (λ e. ⊎_elim
    (λ t. ap (filter p) (cond-true (q x) (x ∷ filter q xs) (filter q xs) t) ∙ cond-true (p x) _ _ e ∙ ap (λ l. x ∷ l) rest
    ∙ sym (ap (filter r) (cond-true (p x) (x ∷ filter p xs) (filter p xs) e) ∙ cond-true (r x) _ _ (sym (same x e) ∙ t)))
    (λ f. ap (filter p) (cond-false (q x) (x ∷ filter q xs) (filter q xs) f) ∙ rest
    ∙ sym (ap (filter r) (cond-true (p x) (x ∷ filter p xs) (filter p xs) e) ∙ cond-false (r x) _ _ (sym (same x e) ∙ f)))
    (cases_Bool (q x)))
    (λ e. cond_both (q x) (x ∷ filter q xs) (filter q xs) (λ l. filter p l ≡ filter p (filter q xs)) (λ _. cond-false (p x) _ _ e) (λ _. refl)
    ∙ rest ∙ ap (filter r) (sym (cond-false (p x) (x ∷ filter p xs) (filter p xs) e)))
    (cases_Bool (p x))

pub kept_missing : (k : Range → Bool) (xs ys : List Range) → filter k (missing xs ys) ≡ missing (filter k xs) (filter k ys)
kept_missing k xs ys = kept_both k (λ x. not (listed ys x)) (λ x. not (listed (filter k ys) x)) (λ x e. ap not (sym (listed_kept k ys x ∙ and_true (listed ys x) (k x) e))) xs

pub kept_changes : (k : Range → Bool) (old new : List Range) → filter (λ c. k (range_of c)) (changes old new) ≡ changes (filter k old) (filter k new)
kept_changes k old new =
    filter-append (λ c. k (range_of c)) (map Removal (missing old new)) (map Addition (missing new old))
    ∙ (λ i. kept_map Removal (λ c. k (range_of c)) (missing old new) i ++ kept_map Addition (λ c. k (range_of c)) (missing new old) i)
    ∙ (λ i. map Removal (kept_missing k old new i) ++ map Addition (kept_missing k new old i))
