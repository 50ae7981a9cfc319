-- The laws of laying maps over one another: a map is fixed by what it gives each address below 2^40.
use Rattle.std.proofs.Common.{◌≡◌, ℕ, ◌^◌, ◌<◌, ◌≤◌, true, leb, List, [], ◌∷◌, Some, None, Option, Result, sym, refl, ap, ◌∙◌, subst, inl, inr, arith, lit≤}
use Rattle.std.proofs.lemmas.Bool.{and_right, lt-ltb, le-ltb, cond-true, cond-false, cases_lt}
use Rattle.interval.specs.Stretches.{at, rising, stop}
use Rattle.interval.proofs.AtLaws.{at_not}
use Rattle.interval.proofs.Spans.{rises}
use Rattle.sweep.specs.Laws.{below}
use Rattle.model.specs.declared.faults.Fault.{Fault}
use Rattle.model.specs.declared.places.Place.{Place}
use Rattle.model.specs.Places.{moved}
use Rattle.model.specs.Ranges.{Range}
use Rattle.tree.specs.Search.{or_else}
use Rattle.flat.specs.declared.flat_map.FlatMap.{FlatMap}
use Rattle.flat.specs.Laws.{IsMap, Flattened}
use Rattle.flat.specs.Maps.{ranges_of}
use Rattle.flat.specs.Overlays.{over, chart, OverlayLaws}
use Rattle.flat.specs.Ranges.{settled}
use Rattle.flat.proofs.Flattening.{same_map, stretches_map, below_all}
use Rattle.flat.proofs.Settling.{settled_true}

chart_map : (f : ℕ → Option Place) → IsMap (below (2 ^ 40) f) (chart f)
unfolding chart
chart_map f = stretches_map f (2 ^ 40) (lit≤ tt)

pub at_chart : (f : ℕ → Option Place) (a : ℕ) → a < 2 ^ 40 → at moved (chart f) a ≡ f a
at_chart f a low = (chart_map f).labels a ∙ cond-true _ _ _ (lt-ltb a (2 ^ 40) low)

-- no range of a rising list holds an address from 2^40 on
past_top : (low a : ℕ) (xs : List Range) → rising low xs ≡ true → 2 ^ 40 ≤ a → at moved xs a ≡ None
past_top low a [] r high = refl
past_top low a (x ∷ xs) r high =
    let p = rises low x xs r in
    at_not moved a x xs (and_right (leb x.start a) _ (le-ltb a (stop x) (omega arith))) ∙ past_top (stop x) a xs p.rest high

-- a map is the chart of what it shows below 2^40
pub chart_is : (f g : ℕ → Option Place) (xs : List Range) → IsMap g xs → ((a : ℕ) → a < 2 ^ 40 → g a ≡ f a) → xs ≡ chart f
chart_is f g xs m e = same_map (below (2 ^ 40) f) xs (chart f) (record { order = m.order; settled = m.settled; labels = shows }) (chart_map f)
  where
    shows : (a : ℕ) → at moved xs a ≡ below (2 ^ 40) f a
    shows a = elim (cases_lt a (2 ^ 40)) [
      | inl low ↦ m.labels a ∙ e a low ∙ sym (cond-true _ _ _ (lt-ltb a (2 ^ 40) low))
      | inr high ↦ past_top 0 a xs m.order high ∙ sym (cond-false _ _ _ (le-ltb a (2 ^ 40) high))
    ]

pub chart_same : (f g : ℕ → Option Place) → ((a : ℕ) → a < 2 ^ 40 → f a ≡ g a) → chart f ≡ chart g
chart_same f g e = chart_is g (below (2 ^ 40) f) (chart f) (chart_map f) (λ a low. cond-true _ _ _ (lt-ltb a (2 ^ 40) low) ∙ e a low)

over_chart : (f g : ℕ → Option Place) → chart (over (at moved (chart f)) g) ≡ chart (over f g)
over_chart f g = chart_same _ _ (λ a low. ap (λ o. or_else o (g a)) (at_chart f a low))

pub under_chart : (f g : ℕ → Option Place) → chart (over f (at moved (chart g))) ≡ chart (over f g)
under_chart f g = chart_same _ _ (λ a low. ap (or_else (f a)) (at_chart g a low))

or_assoc : (x y z : Option Place) → or_else (or_else x y) z ≡ or_else x (or_else y z)
or_assoc (Some p) y z = refl
or_assoc None y z = refl

or_none : (x : Option Place) → or_else x None ≡ x
or_none (Some p) = refl
or_none None = refl

chart_at : (xs : List Range) → rising 0 xs ≡ true → settled xs ≡ true → chart (at moved xs) ≡ xs
chart_at xs r s = sym (chart_is (at moved xs) (at moved xs) xs (record { order = r; settled = settled_true xs s; labels = λ a. refl }) (λ a low. refl))

pub overlay_laws : OverlayLaws
overlay_laws = record {
  associative = λ xs ys zs. over_chart (over (at moved xs) (at moved ys)) (at moved zs) ∙ ap chart (λ i a. or_assoc (at moved xs a) (at moved ys a) (at moved zs a) i) ∙ sym (under_chart (at moved xs) (over (at moved ys) (at moved zs)));
  empty_upper = chart_at;
  empty_lower = λ xs r s. ap chart (λ i a. or_none (at moved xs a) i) ∙ chart_at xs r s;
  maps = λ f g. over_chart f (at moved (chart g)) ∙ under_chart f g;
}

-- two maps show nothing from 2^40 on
pub overlay_below : (m n : FlatMap) (r : Result FlatMap Fault) → Flattened (below (2 ^ 40) (over (at moved (ranges_of m)) (at moved (ranges_of n)))) r → Flattened (over (at moved (ranges_of m)) (at moved (ranges_of n))) r
overlay_below m n r h =
    let f = over (at moved (ranges_of m)) (at moved (ranges_of n)) in
    subst (λ g. Flattened g r) (below_all f (2 ^ 40) (λ a high. ap (λ o. or_else o (at moved (ranges_of n) a)) (past_top 0 a (ranges_of m) m.map.rises high) ∙ past_top 0 a (ranges_of n) n.map.rises high)) h
