-- Ranges by their equality, and lists of them by their members.
use Rattle.std.proofs.Common.{◌≡◌, ℕ, zero, suc, ◌<◌, ◌≤◌, Bool, true, false, not, ◌&&◌, ◌||◌, ltb, ◌⊎◌, List, [], ◌∷◌, drop, Decides, filter, sym, refl, ap, ◌∙◌, subst, inl, inr, ⊎_elim, arith}
use Rattle.std.proofs.lemmas.Bool.{and_from, and_right, or_from, or_left, both_ways, cases_Bool, cases_lt, cond-true, cond-false, cond_both}
use Rattle.std.proofs.lemmas.Bool.Decides.{Decides-and, Decides-eqb, Decides-like}
use Rattle.interval.specs.declared.stretches.Stretch.{Stretch}
use Rattle.interval.specs.Stretches.{rising, stop}
use Rattle.interval.specs.Edits.{put}
use Rattle.interval.proofs.Spans.{rises}
use Rattle.interval.proofs.Orders.{rising_from, rising_down}
use Rattle.model.specs.Ranges.{Range, same_range, listed, without}
use Rattle.model.specs.SamePlace.{places}
use Rattle.diff.specs.ChangeLists.{missing}

-- Equality.

pub same_decides : (r s : Range) → Decides (same_range r s) (r ≡ s)
same_decides r s =
    Decides-like (same_range r s)
    (λ h. λ i. record { start = h.0 i; length = h.1.0 i; label = h.1.1 i })
    (λ e. (ap (λ x. x.start) e, (ap (λ x. x.length) e, ap (λ x. x.label) e)))
    (Decides-and _ _ (Decides-eqb _ _) (Decides-and _ _ (Decides-eqb _ _) (places _ _)))

pub same_refl : (r : Range) → same_range r r ≡ true
same_refl r = (same_decides r r).1 refl

pub differ : (r s : Range) → (r ≡ s → ⊥) → same_range r s ≡ false
differ r s ne = ⊎_elim (λ e. absurd (ne ((same_decides r s).0 e))) (λ e. e) (cases_Bool (same_range r s))

-- two ranges are one or two, whichever is asked about first
pub cases_same : (r s : Range) → (r ≡ s) ⊎ ((same_range r s ≡ false) × (same_range s r ≡ false))
cases_same r s =
    ⊎_elim (λ e. inl ((same_decides r s).0 e))
    (λ e. inr (e, differ s r (λ d. both_ways (same_range r s) e ((same_decides r s).1 (sym d)))))
    (cases_Bool (same_range r s))

pub or_skip : (b c : Bool) → b ≡ false → (b || c) ≡ c
or_skip true c e = absurd (both_ways true e refl)
or_skip false c e = refl

pub and_true : (b c : Bool) → c ≡ true → (b && c) ≡ b
and_true true c e = e
and_true false c e = refl

pub or_nothing : (b c : Bool) → c ≡ false → (b || c) ≡ b
or_nothing true c e = refl
or_nothing false c e = e

-- Order.

-- a range that starts below a rising list is not in it
pub low_unlisted : (low : ℕ) (xs : List Range) (r : Range) → rising low xs ≡ true → r.start < low → listed xs r ≡ false
low_unlisted low [] r up lt = refl
low_unlisted low (x ∷ xs) r up lt =
    let p = rises low x xs up in
    or_from _ _ (differ x r (λ e. let s = ap (λ y. y.start) e in absurd (omega (arith, p.above)))) (low_unlisted (stop x) xs r p.rest (omega (arith, p.above)))

-- what is in a rising list starts where the list may start, or above
pub listed_above : (low : ℕ) (xs : List Range) (r : Range) → rising low xs ≡ true → listed xs r ≡ true → low ≤ r.start
listed_above low xs r up in' = elim (cases_lt r.start low) [ inl lt ↦ absurd (both_ways (listed xs r) (low_unlisted low xs r up lt) in') | inr le ↦ le ]

-- filtering keeps the order
pub rising_kept : {L : Type 0} (p : Stretch L → Bool) (low : ℕ) (xs : List (Stretch L)) → rising low xs ≡ true → rising low (filter p xs) ≡ true
rising_kept p low [] up = refl
rising_kept p low (x ∷ xs) up =
    let q = rises low x xs up in
    let rest = rising_kept p (stop x) xs q.rest in
    cond_both (p x) (x ∷ filter p xs) (filter p xs) (λ l. rising low l ≡ true)
    (λ _. rising_from low x (filter p xs) q.above q.some q.under rest)
    (λ _. rising_down (stop x) low (filter p xs) (omega (arith, q.above)) rest)

-- so does leaving ranges off in front
pub rising_drop : {L : Type 0} (n low : ℕ) (xs : List (Stretch L)) → rising low xs ≡ true → rising low (drop n xs) ≡ true
rising_drop zero low xs up = up
rising_drop (suc n) low [] up = refl
rising_drop (suc n) low (x ∷ xs) up = let p = rises low x xs up in rising_drop n low xs (rising_down (stop x) low xs (omega (arith, p.above)) p.rest)

-- Members.

-- what a filter lists
pub listed_kept : (p : Range → Bool) (xs : List Range) (r : Range) → listed (filter p xs) r ≡ (listed xs r && p r)
listed_kept p [] r = refl
listed_kept p (x ∷ xs) r = ⊎_elim (λ e. here (listed_kept p xs r) e (cases_Bool (p r))) (there (listed_kept p xs r)) (cases_same x r)
  where
    here : listed (filter p xs) r ≡ (listed xs r && p r) → x ≡ r → (p r ≡ true) ⊎ (p r ≡ false) → listed (filter p (x ∷ xs)) r ≡ (listed (x ∷ xs) r && p r)
    here rest e (inl passes) =
        let in' = (same_decides x r).1 e in
        ap (λ l. listed l r) (cond-true (p x) _ _ (ap p e ∙ passes)) ∙ or_left _ _ in' ∙ sym (and_from _ _ (or_left _ _ in') passes)
    here rest e (inr fails) =
        ap (λ l. listed l r) (cond-false (p x) _ _ (ap p e ∙ fails)) ∙ rest ∙ and_right (listed xs r) (p r) fails ∙ sym (and_right (listed (x ∷ xs) r) (p r) fails)

    there : listed (filter p xs) r ≡ (listed xs r && p r) → (same_range x r ≡ false) × (same_range r x ≡ false) → listed (filter p (x ∷ xs)) r ≡ (listed (x ∷ xs) r && p r)
    there rest d =
        cond_both (p x) (x ∷ filter p xs) (filter p xs) (λ l. listed l r ≡ (listed xs r && p r)) (λ _. or_skip _ _ d.0 ∙ rest) (λ _. rest)
        ∙ ap (λ b. b && p r) (sym (or_skip (same_range x r) (listed xs r) d.0))

pub listed_missing : (xs ys : List Range) (r : Range) → listed (missing xs ys) r ≡ (listed xs r && not (listed ys r))
listed_missing xs ys r = listed_kept (λ x. not (listed ys x)) xs r

pub kept_unlisted : (p : Range → Bool) (xs : List Range) (r : Range) → listed xs r ≡ false → listed (filter p xs) r ≡ false
kept_unlisted p xs r e = listed_kept p xs r ∙ ap (λ b. b && p r) e

-- a put adds one member
pub listed_put : (xs : List Range) (s r : Range) → listed (put xs s) r ≡ (same_range s r || listed xs r)
listed_put [] s r = refl
listed_put (x ∷ xs) s r =
    cond_both (ltb x.start s.start) (x ∷ put xs s) (s ∷ x ∷ xs) (λ l. listed l r ≡ (same_range s r || listed (x ∷ xs) r))
    (λ _. ap (λ b. same_range x r || b) (listed_put xs s r) ∙ swap (same_range x r) (same_range s r) (listed xs r))
    (λ _. refl)
  where
    swap : (a b c : Bool) → (a || (b || c)) ≡ (b || (a || c))
    swap true true c = refl
    swap true false c = refl
    swap false b c = refl

-- no range stands twice
abbrev pub Distinct : List Range → Type 0
Distinct [] = Unit {0}
Distinct (x ∷ xs) = (listed xs x ≡ false) × Distinct xs

pub rising_distinct : (low : ℕ) (xs : List Range) → rising low xs ≡ true → Distinct xs
rising_distinct low [] up = tt
rising_distinct low (x ∷ xs) up = let p = rises low x xs up in (low_unlisted (stop x) xs x p.rest (omega (arith, p.some)), rising_distinct (stop x) xs p.rest)

pub distinct_kept : (p : Range → Bool) (xs : List Range) → Distinct xs → Distinct (filter p xs)
distinct_kept p [] d = tt
distinct_kept p (x ∷ xs) d =
    cond_both (p x) (x ∷ filter p xs) (filter p xs) Distinct (λ _. (kept_unlisted p xs x d.0, distinct_kept p xs d.1)) (λ _. distinct_kept p xs d.1)

-- taking a range out takes that member away, and no other
pub listed_without : (xs : List Range) (r s : Range) → Distinct xs → listed (without xs r) s ≡ (listed xs s && not (same_range r s))
listed_without [] r s d = refl
listed_without (x ∷ xs) r s d = ⊎_elim
    (λ e. ap (λ l. listed l s) (cond-true (same_range x r) xs (x ∷ without xs r) ((same_decides x r).1 e)) ∙ subst (λ y. listed xs s ≡ ((same_range x s || listed xs s) && not (same_range y s))) e (gone (cases_same x s)))
    (λ e. ap (λ l. listed l s) (cond-false (same_range x r) xs (x ∷ without xs r) e.0) ∙ stays e (listed_without xs r s d.1) (cases_same x s))
    (cases_same x r)
  where
    gone : (x ≡ s) ⊎ ((same_range x s ≡ false) × (same_range s x ≡ false)) → listed xs s ≡ ((same_range x s || listed xs s) && not (same_range x s))
    gone (inl e) =
        subst (λ y. listed xs y ≡ false) e d.0 ∙ sym (and_right (same_range x s || listed xs s) _ (ap not ((same_decides x s).1 e)))
    gone (inr e) = sym (ap (λ b. (b || listed xs s) && not b) e.0 ∙ and_true (listed xs s) true refl)

    stays : (same_range x r ≡ false) × (same_range r x ≡ false) → listed (without xs r) s ≡ (listed xs s && not (same_range r s)) → (x ≡ s) ⊎ ((same_range x s ≡ false) × (same_range s x ≡ false))
        → (same_range x s || listed (without xs r) s) ≡ ((same_range x s || listed xs s) && not (same_range r s))
    stays e rest (inl is) =
        let in' = (same_decides x s).1 is in
        or_left _ _ in' ∙ sym (and_from _ _ (or_left _ _ in') (ap not (subst (λ y. same_range r y ≡ false) is e.1)))
    stays e rest (inr is) = or_skip _ _ is.0 ∙ rest ∙ ap (λ b. b && not (same_range r s)) (sym (or_skip _ _ is.0))

-- two rising lists with the same members are one list
pub rising_same : (low low' : ℕ) (xs ys : List Range) → rising low xs ≡ true → rising low' ys ≡ true → ((r : Range) → listed xs r ≡ listed ys r) → xs ≡ ys
rising_same low low' [] [] up up' e = refl
rising_same low low' [] (y ∷ ys) up up' e = absurd (both_ways false refl (e y ∙ or_left _ _ (same_refl y)))
rising_same low low' (x ∷ xs) [] up up' e = absurd (both_ways false refl (sym (e x) ∙ or_left _ _ (same_refl x)))
rising_same low low' (x ∷ xs) (y ∷ ys) up up' e =
    let p = rises low x xs up in
    let q = rises low' y ys up' in
    let low_x : (r : Range) → r.start < stop x → listed xs r ≡ false = λ r lt. low_unlisted (stop x) xs r p.rest lt in
    let low-y : (r : Range) → r.start < stop y → listed ys r ≡ false = λ r lt. low_unlisted (stop y) ys r q.rest lt in
    let heads : x ≡ y = ⊎_elim (λ d. d) (λ d. absurd (⊎_elim
    (λ lt. both_ways (listed (y ∷ ys) x) (or_from _ _ d.1 (low-y x (omega arith))) (sym (e x) ∙ or_left _ _ (same_refl x)))
    (λ le. both_ways (listed (x ∷ xs) y) (or_from _ _ d.0 (low_x y (omega (arith, p.some)))) (e y ∙ or_left _ _ (same_refl y)))
    (cases_lt x.start y.start))) (cases_same x y) in
    let tails : (r : Range) → listed xs r ≡ listed ys r = λ r. ⊎_elim
    (λ d. low_x r (let s = ap (λ z. z.start) d in omega (arith, p.some)) ∙ sym (low-y r (let s = ap (λ z. z.start) (sym heads ∙ d) in omega (arith, q.some))))
    (λ d. sym (or_skip (same_range x r) (listed xs r) d.0) ∙ e r ∙ or_skip (same_range y r) (listed ys r) (subst (λ z. same_range z r ≡ false) heads d.0))
    (cases_same x r) in
    λ i. heads i ∷ rising_same (stop x) (stop y) xs ys p.rest q.rest tails i
