-- A change list carried out on the old map gives the new one.
use Rattle.std.proofs.Common.{◌≡◌, ℕ, ◌<◌, ◌≤◌, Bool, true, false, not, ◌&&◌, ltb, List, [], ◌∷◌, ◌++◌, map, Some, None, filter, Option, sym, refl, ap, ◌∙◌, subst, ⊎_elim, arith}
use Rattle.std.specs.Option.{option_map}
use Rattle.std.proofs.lemmas.Bool.{and_parts, and_from, both_ways, or_left, leb-true, ltb-true, le-leb, le-ltb, lt-ltb, cond-true, cond-false, cases_Bool, not_from_true, not_from_false}
use Rattle.interval.specs.Stretches.{rising, lawful, stop}
use Rattle.interval.specs.Edits.{free, put}
use Rattle.interval.proofs.Spans.{rises, free_above}
use Rattle.interval.proofs.Orders.{rising_put}
use Rattle.model.specs.declared.changes.Change.{Change}
use Rattle.model.specs.declared.changes.Change.TheVariants.{Removal, Addition}
use Rattle.model.specs.Ranges.{Range, same_range, listed, without}
use Rattle.replay.specs.CarryOut.{removed, added, carried}
use Rattle.replay.proofs.Removing.{rising_without}
use Rattle.diff.specs.ChangeLists.{missing, changes}
use Rattle.diff.specs.Laws.{and_then, carry_out}
use Rattle.diff.proofs.Members.{same_decides, same_refl, cases_same, or_skip, Distinct, kept_unlisted, listed_kept, rising_distinct, rising_kept, rising_same}

pub carry_append : (cs ds : List Change) (h : List Range) → carry_out (cs ++ ds) h ≡ and_then (carry_out cs h) (carry_out ds)
carry_append [] ds h = refl
carry_append (c ∷ cs) ds h = go (λ k. carry_append cs ds k) (carried c h)
  where
    go : ((k : List Range) → carry_out (cs ++ ds) k ≡ and_then (carry_out cs k) (carry_out ds)) → (o : Option (List Range)) → and_then o (carry_out (cs ++ ds)) ≡ and_then (and_then o (carry_out cs)) (carry_out ds)
    go rest None = refl
    go rest (Some k) = rest k

-- the first entry of a list that can be carried out, and the others
pub record Stepped (c : Change) (cs : List Change) (h k : List Range) : Type 0 where
  pub next : List Range
  pub first : carried c h ≡ Some next
  pub rest : carry_out cs next ≡ Some k

pub stepped : (c : Change) (cs : List Change) (h k : List Range) → carry_out (c ∷ cs) h ≡ Some k → Stepped c cs h k
stepped c cs h k e = go (carried c h) refl
  where
    go : (o : Option (List Range)) → carried c h ≡ o → Stepped c cs h k
    go None is = absurd (let never : None ≡ Some k = sym (ap (λ o. and_then o (carry_out cs)) is) ∙ e in let z : ◌≡◌ {A = ℕ} 0 1 = cc in omega arith)
    go (Some next) is = record { next = next; first = is; rest = sym (ap (λ o. and_then o (carry_out cs)) is) ∙ e }

pub step : (c : Change) (cs : List Change) (h next : List Range) → carried c h ≡ Some next → carry_out (c ∷ cs) h ≡ carry_out cs next
step c cs h next e = ap (λ o. and_then o (carry_out cs)) e

-- Removals.

-- a removal that can be carried out is of a held range, and gives the list without it
pub removed_held : (h : List Range) (r : Range) (next : List Range) → removed h r ≡ Some next → (listed h r ≡ true) × (next ≡ without h r)
removed_held h r next e = ⊎_elim
    (λ held. (held, let is : Some (without h r) ≡ Some next = sym (cond-true (listed h r) (Some (without h r)) None held) ∙ e in cc))
    (λ lacks. absurd (let never : None ≡ Some next = sym (cond-false (listed h r) (Some (without h r)) None lacks) ∙ e in let z : ◌≡◌ {A = ℕ} 0 1 = cc in omega arith))
    (cases_Bool (listed h r))

-- a range that none of the removals names stays in front
remove_past : (x : Range) (rs h k : List Range) → listed rs x ≡ false → carry_out (map Removal rs) h ≡ Some k → carry_out (map Removal rs) (x ∷ h) ≡ Some (x ∷ k)
remove_past x [] h k e is = ap (option_map (λ l. x ∷ l)) is
remove_past x (r ∷ rs) h k e is =
    let s = stepped (Removal r) (map Removal rs) h k is in
    let held = removed_held h r s.next s.first in
    ⊎_elim
    (λ d. absurd (both_ways (listed (r ∷ rs) x) e (or_left _ _ ((same_decides r x).1 d))))
    (λ d. step (Removal r) (map Removal rs) (x ∷ h) (x ∷ s.next)
    (cond-true _ _ _ (or_skip (same_range x r) (listed h r) d.1 ∙ held.0) ∙ ap Some (cond-false (same_range x r) h (x ∷ without h r) d.1 ∙ ap (λ l. x ∷ l) (sym held.1)))
    ∙ remove_past x rs s.next k (sym (or_skip (same_range r x) (listed rs x) d.0) ∙ e) s.rest)
    (cases_same r x)

-- removing from xs what fails a test leaves what passes
pub removed_all : (p : Range → Bool) (xs : List Range) → Distinct xs → carry_out (map Removal (filter (λ x. not (p x)) xs)) xs ≡ Some (filter p xs)
removed_all p [] d = refl
removed_all p (x ∷ xs) d =
    let fails = filter (λ x. not (p x)) xs in
    ⊎_elim
    (λ e. ap (λ rs. carry_out (map Removal rs) (x ∷ xs)) (cond-false (not (p x)) (x ∷ fails) fails (not_from_true (p x) e))
    ∙ remove_past x fails xs (filter p xs) (kept_unlisted (λ x. not (p x)) xs x d.0) (removed_all p xs d.1)
    ∙ ap Some (sym (cond-true (p x) (x ∷ filter p xs) (filter p xs) e)))
    (λ e. ap (λ rs. carry_out (map Removal rs) (x ∷ xs)) (cond-true (not (p x)) (x ∷ fails) fails (not_from_false (p x) e))
    ∙ step (Removal x) (map Removal fails) (x ∷ xs) xs (cond-true _ _ _ (or_left _ _ (same_refl x)) ∙ ap Some (cond-true (same_range x x) xs (x ∷ without xs x) (same_refl x)))
    ∙ removed_all p xs d.1
    ∙ ap Some (sym (cond-false (p x) (x ∷ filter p xs) (filter p xs) e)))
    (cases_Bool (p x))

-- Additions.

-- an addition that can be carried out is of a lawful range that overlaps none held
pub added_free : (h : List Range) (r : Range) (next : List Range) → added h r ≡ Some next → ((lawful r.start r.length && free r.start (stop r) h) ≡ true) × (next ≡ put h r)
added_free h r next e = ⊎_elim
    (λ fits. (fits, let is : Some (put h r) ≡ Some next = sym (cond-true (lawful r.start r.length && free r.start (stop r) h) (Some (put h r)) None fits) ∙ e in cc))
    (λ not'. absurd (let never : None ≡ Some next = sym (cond-false (lawful r.start r.length && free r.start (stop r) h) (Some (put h r)) None not') ∙ e in let z : ◌≡◌ {A = ℕ} 0 1 = cc in omega arith))
    (cases_Bool (lawful r.start r.length && free r.start (stop r) h))

-- additions above a range leave it in front
add_past : (x : Range) (low : ℕ) (rs h k : List Range) → 0 < x.length → stop x ≤ low → rising low rs ≡ true → carry_out (map Addition rs) h ≡ Some k → carry_out (map Addition rs) (x ∷ h) ≡ Some (x ∷ k)
add_past x low [] h k some le up is = ap (option_map (λ l. x ∷ l)) is
add_past x low (r ∷ rs) h k some le up is =
    let p = rises low r rs up in
    let s = stepped (Addition r) (map Addition rs) h k is in
    let fits = added_free h r s.next s.first in
    let q = and_parts (lawful r.start r.length) _ fits.0 in
    let above : stop x ≤ r.start = omega (arith, p.above) in
    step (Addition r) (map Addition rs) (x ∷ h) (x ∷ s.next)
    (cond-true _ _ _ (and_from _ _ q.0 (and_from _ _ (or_left _ _ (le-leb _ _ above)) q.1))
    ∙ ap Some (cond-true (ltb x.start r.start) (x ∷ put h r) (r ∷ x ∷ h) (lt-ltb _ _ (omega arith)) ∙ ap (λ l. x ∷ l) (sym fits.1)))
    ∙ add_past x (stop r) rs s.next k some (omega arith) p.rest s.rest

-- a range below a rising list goes in front
put_below : (r : Range) (low : ℕ) (xs : List Range) → r.start < low → rising low xs ≡ true → put xs r ≡ r ∷ xs
put_below r low [] lt up = refl
put_below r low (x ∷ xs) lt up = let p = rises low x xs up in cond-false _ _ _ (le-ltb x.start r.start (omega (arith, p.above)))

-- adding to what passes a test what fails it gives all
pub added_all : (p : Range → Bool) (low : ℕ) (xs : List Range) → rising low xs ≡ true → carry_out (map Addition (filter (λ x. not (p x)) xs)) (filter p xs) ≡ Some xs
added_all p low [] up = refl
added_all p low (x ∷ xs) up =
    let q = rises low x xs up in
    let fails = filter (λ x. not (p x)) xs in
    let passes = filter p xs in
    let high = rising_kept p (stop x) xs q.rest in
    let front : carry_out (map Addition fails) (x ∷ passes) ≡ Some (x ∷ xs)
    = add_past x (stop x) fails passes xs q.some (omega arith) (rising_kept (λ x. not (p x)) (stop x) xs q.rest) (added_all p (stop x) xs q.rest) in
    ⊎_elim
    (λ e. (λ i. carry_out (map Addition (cond-false (not (p x)) (x ∷ fails) fails (not_from_true (p x) e) i)) (cond-true (p x) (x ∷ passes) passes e i)) ∙ front)
    (λ e. (λ i. carry_out (map Addition (cond-true (not (p x)) (x ∷ fails) fails (not_from_false (p x) e) i)) (cond-false (p x) (x ∷ passes) passes e i))
    ∙ step (Addition x) (map Addition fails) passes (x ∷ passes)
    (cond-true _ _ _ (and_from _ _ (and_from _ _ (lt-ltb _ _ q.some) (le-leb _ _ q.under)) (free_above x.start (stop x) (omega (arith, q.some)) (stop x) passes (omega arith) high))
    ∙ ap Some (put_below x (stop x) passes (omega (arith, q.some)) high))
    ∙ front)
    (cases_Bool (p x))

-- what both have is one list, read off either
pub common : (low low' : ℕ) (old new : List Range) → rising low old ≡ true → rising low' new ≡ true → filter (listed new) old ≡ filter (listed old) new
common low low' old new up up' =
    rising_same low low' (filter (listed new) old) (filter (listed old) new) (rising_kept (listed new) low old up) (rising_kept (listed old) low' new up')
    (λ r. listed_kept (listed new) old r ∙ flip (listed old r) (listed new r) ∙ sym (listed_kept (listed old) new r))
  where
    flip : (x y : Bool) → (x && y) ≡ (y && x)
    flip true true = refl
    flip true false = refl
    flip false true = refl
    flip false false = refl

module _ (low low' : ℕ) (old new : List Range) (up : rising low old ≡ true) (up' : rising low' new ≡ true) where
  -- after the removals what both have is held, and the additions complete it
  pub removals_done : carry_out (map Removal (missing old new)) old ≡ Some (filter (listed old) new)
  removals_done = removed_all (listed new) old (rising_distinct low old up) ∙ ap Some (common low low' old new up up')

  pub additions_done : carry_out (map Addition (missing new old)) (filter (listed old) new) ≡ Some new
  additions_done = added_all (listed old) low' new up'

  pub changes_done : carry_out (changes old new) old ≡ Some new
  changes_done = carry_append (map Removal (missing old new)) (map Addition (missing new old)) old ∙ ap (λ o. and_then o (carry_out (map Addition (missing new old)))) removals_done ∙ additions_done

-- an entry keeps the order
pub carried_rises : (c : Change) (h next : List Range) → rising 0 h ≡ true → carried c h ≡ Some next → rising 0 next ≡ true
carried_rises (Removal r) h next up e = ap (rising 0) (removed_held h r next e).1 ∙ rising_without r 0 h up
carried_rises (Addition r) h next up e =
    let fits = added_free h r next e in
    let q = and_parts (lawful r.start r.length) _ fits.0 in
    let s = and_parts (ltb 0 r.length) _ q.0 in
    ap (rising 0) fits.1 ∙ rising_put r 0 h (omega arith) (ltb-true _ _ s.0) (leb-true _ _ s.1) up q.1

pub carry_rises : (cs : List Change) (h k : List Range) → rising 0 h ≡ true → carry_out cs h ≡ Some k → rising 0 k ≡ true
carry_rises [] h k up e = let same : h ≡ k = cc in subst (λ l. rising 0 l ≡ true) same up
carry_rises (c ∷ cs) h k up e = let s = stepped c cs h k e in carry_rises cs s.next k (carried_rises c h s.next up s.first) s.rest
