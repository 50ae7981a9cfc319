-- The map that a sweep leaves.
use Rattle.std.proofs.Common.{◌≡◌, ℕ, ◌^◌, ◌≤◌, true, false, leb, List, length, take, None, Ok, Err, Option, Result, true≢false, sym, refl, ap, ◌∙◌, subst, inl, inr, arith, lit<, length-take}
use Rattle.std.proofs.lemmas.Bool.{and_parts, leb-true, le-leb, lt-ltb, le-ltb, cond-true, cond-false, cases_lt}
use Rattle.std.specs.Result.{MatchResult, IsErrAnd, is_ok}
use Rattle.std.proofs.lemmas.Result.{err_from_is_err_and}
use Rattle.interval.specs.Laws.{HoldsMaximal}
use Rattle.interval.specs.Stretches.{rising, at}
use Rattle.interval.proofs.Only.{only}
use Rattle.interval.specs.declared.refusals.Refusal.{Refusal}
use Rattle.sweep.specs.Laws.{below, Swept}
use Rattle.sweep.specs.Maps.{stretches}
use Rattle.sweep.proofs.Showing.{maximal}
use Rattle.model.specs.declared.faults.Fault.{Fault}
use Rattle.model.specs.declared.places.Place.{Place}
use Rattle.model.specs.Places.{moved, same_place}
use Rattle.model.specs.Ranges.{Range}
use Rattle.tree.specs.Model.{Model}
use Rattle.tree.specs.Search.{search, root_size}
use Rattle.tree.specs.Sights.{Agrees}
use Rattle.tree.proofs.Steps.{search_beyond}
use Rattle.flat.specs.declared.flat_map.FlatMap.{FlatMap}
use Rattle.flat.specs.Laws.{IsMap, OnlyMap, Flattened, RuledBy}
use Rattle.flat.specs.Maps.{map_of, ranges_of, fitting, told}
use Rattle.flat.specs.Ranges.{settled}
use Rattle.flat.proofs.Placed.{place_laws}
use Rattle.flat.proofs.Settling.{settled_from, settled_true}

-- what is `Ok` after a refusal is turned into another was `Ok` before
pub ok_before : {X Y Z : Type 0} (Q : Y → Z → Type 0) (r : Result X Y) (s : Result X Z) (x : X) → MatchResult r (λ y. s ≡ Ok y) (λ e. IsErrAnd s (Q e)) → s ≡ Ok x → r ≡ Ok x
ok_before Q (Ok y) s x m is = ap (elim [ Ok z ↦ Ok z | Err e ↦ Ok y ]) (sym m ∙ is)
ok_before Q (Err e) s x m is = let f = err_from_is_err_and s m in absurd (true≢false (sym (ap is_ok is) ∙ ap is_ok f.1))

-- a sweep whose answer is `Ok` after its refusal is turned into another left the one maximal list
pub swept_by : {Z : Type 0} (Q : Refusal → Z → Type 0) (f : ℕ → Option Place) (size : ℕ) (was now : List Range) (r : Result ℕ Refusal) (s : Result ℕ Z) (n : ℕ)
    → Swept moved same_place f size was now r → MatchResult r (λ k. s ≡ Ok k) (λ e. IsErrAnd s (Q e)) → s ≡ Ok n
    → HoldsMaximal moved same_place (below size f) was now n
swept_by Q f size was now r s n swept m is = (subst (Swept moved same_place f size was now) (ok_before Q r s n m is) swept).1

-- two lists that give each address the same are one
pub same_map : (f : ℕ → Option Place) (xs ys : List Range) → IsMap f xs → IsMap f ys → xs ≡ ys
same_map f xs ys p q = only moved place_laws.zero same_place place_laws.exact xs ys 0 p.order p.settled q.order q.settled (λ a. p.labels a ∙ sym (q.labels a))

only_map : (f : ℕ → Option Place) (xs : List Range) → IsMap f xs → OnlyMap f xs
only_map f xs m = record { maximal = m; only = λ ys k. same_map f ys xs k m }

-- the ranges of a map are the only ones that give each address what they give it
pub own_map : (m : FlatMap) → OnlyMap (at moved (ranges_of m)) (ranges_of m)
own_map m = only_map (at moved (ranges_of m)) (ranges_of m) (record { order = m.map.rises; settled = settled_true (ranges_of m) m.apart; labels = λ a. refl })

pub stretches_map : (f : ℕ → Option Place) (size : ℕ) → size ≤ 2 ^ 40 → IsMap (below size f) (stretches moved same_place f 0 size)
stretches_map f size top = maximal moved same_place place_laws f size top

module _ (f : ℕ → Option Place) (size : ℕ) (was now : List Range) (n : ℕ) (rows : length now ≡ 256) (w : HoldsMaximal moved same_place (below size f) was now n) where
  pub swept_fits : n ≤ 256
  swept_fits = let h = leb-true _ _ (and_parts (leb n (length now)) _ w.stands.order).0 in omega arith

  pub swept_rises : rising 0 (take n now) ≡ true
  swept_rises = (and_parts (leb n (length now)) _ w.stands.order).1

  pub swept_settled : settled (take n now) ≡ true
  swept_settled = settled_from (take n now) w.settled

  pub swept_only : OnlyMap (below size f) (take n now)
  swept_only = record { maximal = record { order = swept_rises; settled = w.settled; labels = w.stands.labels }; only = w.only }

  pub swept_is : size ≤ 2 ^ 40 → Ok (take n now) ≡ fitting (stretches moved same_place f 0 size)
  swept_is top =
      let xs = stretches moved same_place f 0 size in
      let e : xs ≡ take n now = w.only xs (stretches_map f size top) in
      let short : length xs ≤ 256 = omega (arith, swept_fits, ap length e, length-take n now) in
      sym (cond-true _ _ _ (le-leb _ _ short) ∙ ap Ok e)

-- where nothing is shown from `size` on, what is shown below it is all
pub below_all : (f : ℕ → Option Place) (size : ℕ) → ((a : ℕ) → size ≤ a → f a ≡ None) → below size f ≡ f
below_all f size past = λ i a. same a i
  where
    same : (a : ℕ) → below size f a ≡ f a
    same a = elim (cases_lt a size) [
      | inl low ↦ cond-true _ _ _ (lt-ltb a size low)
      | inr high ↦ cond-false _ _ _ (le-ltb a size high) ∙ sym (past a high)
    ]

search_below : (t : Model) → below (root_size t) (search t) ≡ search t
search_below t = below_all (search t) (root_size t) (search_beyond t)

pub map_only : (t : Model) → root_size t ≤ 2 ^ 40 → OnlyMap (search t) (map_of t)
unfolding map_of
map_only t top = only_map (search t) _ (subst (λ f. IsMap f (map_of t)) (search_below t) (stretches_map (search t) (root_size t) top))

pub map_ruled : (t : Model) → root_size t ≤ 2 ^ 40 → Agrees t → RuledBy t (map_of t)
unfolding search
map_ruled t top agrees a o =
    let e : at moved (map_of t) a ≡ search t a = (map_only t top).maximal.labels a in
    let both = agrees 9 0 a false o (lit< tt) in
    (λ h. e ∙ both.0 h, λ k. both.1 (sym e ∙ k))

-- the answer for a tree, from that for what is shown below its size
module _ (t : Model) (size : ℕ) (is : size ≡ root_size t) (r : Result FlatMap Fault) where
  pub of_is : told r ≡ fitting (stretches moved same_place (search t) 0 size) → told r ≡ fitting (map_of t)
  unfolding map_of
  of_is e = e ∙ ap (λ n. fitting (stretches moved same_place (search t) 0 n)) is

  pub of_stands : Flattened (below size (search t)) r → Flattened (search t) r
  of_stands h = subst (λ f. Flattened f r) (ap (λ n. below n (search t)) is ∙ search_below t) h
