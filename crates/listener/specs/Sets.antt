-- Sets of ranges as rising lists: what is listed, what is put in and what is taken out.
use Rattle.std.specs.Prelude.{◌≡◌, ℕ, suc, ◌<◌, ◌≤◌, Bool, true, false, not, ◌&&◌, ◌||◌, ◌⊎◌, List, [], ◌∷◌, length, Decides, ◌==◌, ◌≢◌, nat_lt, refl}
use Rattle.std.proofs.Common.{sym, ap, ◌∙◌, inl, inr, arith}
use Rattle.std.proofs.lemmas.Bool.{and_parts, and_from, or_parts, or_cases, or_left, or_right, or_from, eqb-true, eq-eqb, cond-true, cond-false, cond_both, cases_lt, cases_Bool, both_ways}
use Rattle.std.proofs.lemmas.Bool.Decides.{nat_tests}
use Rattle.interval.specs.Stretches.{stop, rising, holds}
use Rattle.interval.specs.Edits.{apart, free, put}
use Rattle.model.specs.Places.{same_place}
use Rattle.model.specs.Ranges.{Range, same_range, listed, without}
use Rattle.model.specs.SamePlace.{places}
use Rattle.listener.specs.Hearing.{Disjoint, Clear}
use Rattle.listener.specs.Rising.{rises, put_front}

or_swap : (a b c : Bool) → (a || (b || c)) ≡ (b || (a || c))
or_swap true true c = refl
or_swap true false c = refl
or_swap false true c = refl
or_swap false false c = refl

same_refl : (r : Range) → same_range r r ≡ true
same_refl r =
    and_from (r.start == r.start) _ (eq-eqb r.start _ refl) (and_from (r.length == r.length) _ (eq-eqb r.length _ refl) ((places r.label r.label).1 refl))

pub same_true : (r s : Range) → same_range r s ≡ true → r ≡ s
same_true r s e =
    let p = and_parts (r.start == s.start) _ e in
    let q = and_parts (r.length == s.length) (same_place r.label s.label) p.1 in
    let e0 = eqb-true r.start s.start p.0 in
    let e1 = eqb-true r.length s.length q.0 in
    let e2 = (places r.label s.label).0 q.1 in
    λ i. record { start = e0 i; length = e1 i; label = e2 i }

pub listed_put : (q : Range) (xs : List Range) (r : Range) → listed (put xs r) q ≡ (same_range r q || listed xs q)
listed_put q [] r = refl
listed_put q (x ∷ xs) r =
    cond_both (nat_lt x.start r.start) _ _ (λ ys. listed ys q ≡ (same_range r q || listed (x ∷ xs) q))
    (λ _. ap (λ t. same_range x q || t) (listed_put q xs r) ∙ or_swap (same_range x q) (same_range r q) (listed xs q)) (λ _. refl)

-- a range of which no address is held is not listed
pub free_unlisted : (r : Range) (xs : List Range) → 0 < r.length → free r.start (stop r) xs ≡ true → listed xs r ≡ false
free_unlisted r [] h f = refl
free_unlisted r (x ∷ xs) h f =
    let p = and_parts (apart r.start (stop r) x) _ f in
    or_from (same_range x r) _ (go (cases_Bool (same_range x r)) p.0) (free_unlisted r xs h p.1)
  where
    self : (r : Range) → 0 < r.length → apart r.start (stop r) r ≡ false
    self r h = grind (arith, nat_tests)

    go : (same_range x r ≡ true) ⊎ (same_range x r ≡ false) → apart r.start (stop r) x ≡ true → same_range x r ≡ false
    go (inl s) o = absurd (both_ways (apart r.start (stop r) r) (self r h) (sym (ap (apart r.start (stop r)) (same_true x r s)) ∙ o))
    go (inr s) o = s

pub without_absent : (xs : List Range) (r : Range) → listed xs r ≡ false → without xs r ≡ xs
without_absent [] r h = refl
without_absent (x ∷ xs) r h =
    let o = or_parts (same_range x r) (listed xs r) h in
    cond-false _ _ _ o.0 ∙ ap (λ ys. x ∷ ys) (without_absent xs r o.1)

-- taking out what was just put in
pub without_put : (xs : List Range) (r : Range) → listed xs r ≡ false → without (put xs r) r ≡ xs
without_put [] r n = cond-true _ _ _ (same_refl r)
without_put (x ∷ xs) r n =
    let p = or_parts (same_range x r) (listed xs r) n in
    cond_both (nat_lt x.start r.start) _ _ (λ ys. without ys r ≡ x ∷ xs)
    (λ _. cond-false _ _ _ p.0 ∙ ap (λ ys. x ∷ ys) (without_put xs r p.1)) (λ _. cond-true _ _ _ (same_refl r))

-- taking out another than what was put in
pub without_other : (low : ℕ) (r x : Range) (xs : List Range) → same_range x r ≡ false → rising low xs ≡ true → without (put xs x) r ≡ put (without xs r) x
without_other low r x [] n b = cond-false _ _ _ n
without_other low r x (y ∷ ys) n b =
    let p = rises low y ys b in
    go (without_other (stop y) r x ys n p.rest) p.rest (cases_Bool (nat_lt y.start x.start)) (cases_Bool (same_range y r))
  where
    go : without (put ys x) r ≡ put (without ys r) x → rising (stop y) ys ≡ true → (nat_lt y.start x.start ≡ true) ⊎ (nat_lt y.start x.start ≡ false) → (same_range y r ≡ true) ⊎ (same_range y r ≡ false) → without (put (y ∷ ys) x) r ≡ put (without (y ∷ ys) r) x
    go ih k (inl h) (inl s) = ap (λ t. without t r) (cond-true _ _ _ h) ∙ cond-true _ _ _ s ∙ sym (ap (λ t. put t x) (cond-true _ _ _ s))
    go ih k (inl h) (inr s) = ap (λ t. without t r) (cond-true _ _ _ h) ∙ cond-false _ _ _ s ∙ ap (λ t. y ∷ t) ih ∙ sym (ap (λ t. put t x) (cond-false _ _ _ s) ∙ cond-true _ _ _ h)
    go ih k (inr h) (inl s) =
        let before : x.start ≤ stop y = grind (arith, nat_tests) in
        ap (λ t. without t r) (cond-false _ _ _ h) ∙ cond-false _ _ _ n ∙ ap (λ t. x ∷ t) (cond-true _ _ _ s) ∙ sym (ap (λ t. put t x) (cond-true _ _ _ s) ∙ put_front (stop y) x ys before k)
    go ih k (inr h) (inr s) = ap (λ t. without t r) (cond-false _ _ _ h) ∙ cond-false _ _ _ n ∙ ap (λ t. x ∷ t) (cond-false _ _ _ s) ∙ sym (ap (λ t. put t x) (cond-false _ _ _ s) ∙ cond-false _ _ _ h)

pub free_without : (a e : ℕ) (xs : List Range) (r : Range) → free a e xs ≡ true → free a e (without xs r) ≡ true
free_without a e [] r f = f
free_without a e (x ∷ xs) r f =
    let o = and_parts (apart a e x) (free a e xs) f in
    cond_both (same_range x r) _ _ (λ ys. free a e ys ≡ true) (λ _. o.1) (λ _. and_from _ _ o.0 (free_without a e xs r o.1))

pub length_without : (xs : List Range) (r : Range) → listed xs r ≡ true → suc (length (without xs r)) ≡ length xs
length_without [] r h = absurd (both_ways false refl h)
length_without (x ∷ xs) r h = go (cases_Bool (same_range x r)) (length_without xs r)
  where
    go : (same_range x r ≡ true) ⊎ (same_range x r ≡ false) → (listed xs r ≡ true → suc (length (without xs r)) ≡ length xs) → suc (length (without (x ∷ xs) r)) ≡ suc (length xs)
    go (inl s) ih = ap (λ ys. suc (length ys)) (cond-true _ _ _ s)
    go (inr s) ih = ap (λ ys. suc (length ys)) (cond-false _ _ _ s) ∙ ap suc (ih (ap (λ t. t || listed xs r) (sym s) ∙ h))

-- a listed range lies above the bound of a rising list
listed_above : (low : ℕ) (xs : List Range) (x : Range) (a : ℕ) → rising low xs ≡ true → listed xs x ≡ true → holds x a ≡ true → low ≤ a
listed_above low [] x a r m h = absurd (both_ways false refl m)
listed_above low (y ∷ ys) x a r m h =
    let p = rises low y ys r in
    go p.above p.some (listed_above (stop y) ys x a p.rest) (or_cases (same_range y x) (listed ys x) m)
  where
    go : low ≤ y.start → 0 < y.length → (listed ys x ≡ true → holds x a ≡ true → stop y ≤ a) → (same_range y x ≡ true) ⊎ (listed ys x ≡ true) → low ≤ a
    go l k ih (inl s) = let e = ap (λ z. z.start) (same_true y x s) in grind (arith, nat_tests)
    go l k ih (inr s) = omega (arith, ih s h)

-- a range that is taken out is gone, since it was there once
pub without_gone : (low : ℕ) (xs : List Range) (r : Range) → rising low xs ≡ true → listed (without xs r) r ≡ false
without_gone low [] r b = refl
without_gone low (x ∷ xs) r b =
    let p = rises low x xs b in
    cond_both (same_range x r) _ _ (λ ys. listed ys r ≡ false) (λ s. go p.some (same_true x r s) (listed_above (stop x) xs r r.start p.rest) (cases_Bool (listed xs r))) (λ s. or_from _ _ s (without_gone (stop x) xs r p.rest))
  where
    starts : (r : Range) → 0 < r.length → holds r r.start ≡ true
    starts r h = grind (arith, nat_tests)

    go : 0 < x.length → x ≡ r → (listed xs r ≡ true → holds r r.start ≡ true → stop x ≤ r.start) → (listed xs r ≡ true) ⊎ (listed xs r ≡ false) → listed xs r ≡ false
    go h e above (inl m) =
        let long : 0 < r.length = omega (arith, ap (λ t. t.length) e) in
        let late = above m (starts r long) in
        absurd (omega (arith, late, ap (λ t. t.start) e))
    go h e above (inr n) = n

pub disjoint : (low : ℕ) (xs : List Range) → rising low xs ≡ true → Disjoint xs
disjoint low [] r x y a mx my hx hy = absurd (both_ways false refl mx)
disjoint low (z ∷ zs) r x y a mx my hx hy =
    let p = rises low z zs r in
    go (disjoint (stop z) zs p.rest) (λ q m h. listed_above (stop z) zs q a p.rest m h) (or_cases (same_range z x) (listed zs x) mx) (or_cases (same_range z y) (listed zs y) my)
  where
    -- an address of the first is none of the rest
    first : (q s : Range) → same_range z q ≡ true → holds q a ≡ true → stop z ≤ a → ⊥
    first q s e h l = let f = same_true z q e in let g = ap (λ t. stop t) f in grind (arith, nat_tests)

    go : Disjoint zs → ((q : Range) → listed zs q ≡ true → holds q a ≡ true → stop z ≤ a) → (same_range z x ≡ true) ⊎ (listed zs x ≡ true) → (same_range z y ≡ true) ⊎ (listed zs y ≡ true) → x ≡ y
    go ih above (inl e) (inl f) = sym (same_true z x e) ∙ same_true z y f
    go ih above (inl e) (inr n) = absurd (first x y e hx (above y n hy))
    go ih above (inr m) (inl f) = absurd (first y x f hy (above x m hx))
    go ih above (inr m) (inr n) = ih x y a m n hx hy

-- a stretch that is not apart shares an address
meet : (r x : Range) → 0 < r.length → 0 < x.length → apart r.start (stop r) x ≡ false → (a : ℕ) × (holds x a ≡ true) × (holds r a ≡ true)
meet r x h k o =
    elim (cases_lt r.start x.start) [
      | inl l ↦ (x.start, grind (arith, nat_tests), grind (arith, nat_tests))
      | inr l ↦ (r.start, grind (arith, nat_tests), grind (arith, nat_tests))
    ]

-- overlap, test by test, is a shared address
pub clear : (low : ℕ) (xs : List Range) (r : Range) → rising low xs ≡ true → 0 < r.length → Decides (free r.start (stop r) xs) (Clear xs r)
clear low [] r b h = (λ _ x a m hx hr. both_ways false refl m, λ _. refl)
clear low (y ∷ ys) r b h =
    let p = rises low y ys b in
    let ih = clear (stop y) ys r p.rest h in
    (λ f x a m hx hr. let q = and_parts (apart r.start (stop r) y) _ f in to q.0 (ih.0 q.1) x a (or_cases (same_range y x) (listed ys x) m) hx hr, λ c. and_from _ _ (back p.some c (cases_Bool (apart r.start (stop r) y))) (ih.1 (λ x a m hx hr. c x a (or_right (same_range y x) _ m) hx hr)))
  where
    none : (x : Range) (a : ℕ) → apart r.start (stop r) x ≡ true → holds x a ≡ true → holds r a ≢ true
    none x a o hx hr = grind (arith, nat_tests)

    to : apart r.start (stop r) y ≡ true → Clear ys r → (x : Range) (a : ℕ) → (same_range y x ≡ true) ⊎ (listed ys x ≡ true) → holds x a ≡ true → holds r a ≢ true
    to o c x a (inl e) hx hr = none x a (ap (apart r.start (stop r)) (sym (same_true y x e)) ∙ o) hx hr
    to o c x a (inr n) hx hr = c x a n hx hr

    back : 0 < y.length → Clear (y ∷ ys) r → (apart r.start (stop r) y ≡ true) ⊎ (apart r.start (stop r) y ≡ false) → apart r.start (stop r) y ≡ true
    back k c (inl o) = o
    back k c (inr o) = let m = meet r y h k o in absurd (c y m.0 (or_left (same_range y y) _ (same_refl y)) m.1 m.2)

-- what is listed where a range was taken out
pub listed_without : (low : ℕ) (xs : List Range) (r q : Range) → rising low xs ≡ true → listed (without xs r) q ≡ (not (same_range r q) && listed xs q)
listed_without low xs r q b = go (cases_Bool (same_range r q))
  where
    other : (xs : List Range) → same_range r q ≡ false → listed (without xs r) q ≡ listed xs q
    other [] n = refl
    other (x ∷ xs) n = step (other xs n) (cases_Bool (same_range x r))
      where
        step : listed (without xs r) q ≡ listed xs q → (same_range x r ≡ true) ⊎ (same_range x r ≡ false) → listed (without (x ∷ xs) r) q ≡ listed (x ∷ xs) q
        step ih (inl e) = ap (λ t. listed t q) (cond-true _ _ _ e) ∙ sym (ap (λ t. t || listed xs q) (ap (λ y. same_range y q) (same_true x r e) ∙ n))
        step ih (inr e) = ap (λ t. listed t q) (cond-false _ _ _ e) ∙ ap (λ t. same_range x q || t) ih

    go : (same_range r q ≡ true) ⊎ (same_range r q ≡ false) → listed (without xs r) q ≡ (not (same_range r q) && listed xs q)
    go (inl e) = ap (listed (without xs r)) (sym (same_true r q e)) ∙ without_gone low xs r b ∙ sym (ap (λ t. not t && listed xs q) e)
    go (inr n) = other xs n ∙ sym (ap (λ t. not t && listed xs q) n)
