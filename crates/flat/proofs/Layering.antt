-- The map of a container, from the maps of its subregions.
use Rattle.std.proofs.Common.{◌≡◌, ℕ, zero, suc, ◌+◌, ◌-◌, ◌^◌, ◌<◌, ◌≤◌, min, Bool, true, false, cond, ◌||◌, ltb, leb, List, [], ◌∷◌, map, Some, None, Option, sym, refl, ap, ◌∙◌, inl, inr, arith}
use Rattle.std.proofs.lemmas.Bool.{le-leb, lt-leb, lt-ltb, le-ltb, cond-true, cond-false, cases_lt}
use Rattle.std.proofs.lemmas.Bool.Decides.{nat_tests}
use Rattle.interval.specs.Stretches.{at, holds}
use Rattle.interval.proofs.AtLaws.{at_not, at_cons}
use Rattle.sweep.specs.Laws.{below}
use Rattle.sweep.specs.Maps.{stretches}
use Rattle.model.specs.declared.places.Place.{Place}
use Rattle.model.specs.Places.{moved, same_place}
use Rattle.model.specs.Ranges.{Range}
use Rattle.tree.specs.declared.regions.Attachment.{Attachment}
use Rattle.tree.specs.declared.regions.Body.TheVariants.{Container}
use Rattle.tree.specs.declared.regions.Region.{Region}
use Rattle.tree.specs.Model.{Model, region_at, subregions}
use Rattle.tree.specs.Search.{or_else, first_of, look, search, root_size}
use Rattle.tree.proofs.Steps.{in_open, in_beyond}
use Rattle.flat.specs.Maps.{map_of}
use Rattle.flat.specs.Overlays.{chart, overlay, overlays, shifted, cropped, region_map, layer, Layered}
use Rattle.flat.proofs.Flattening.{stretches_map, below_all, map_only}
use Rattle.flat.proofs.Overlaying.{at_chart, chart_is, chart_same, under_chart}

none_both : (b : Bool) → ◌≡◌ {A = Option Place} None (cond b None None)
none_both true = refl
none_both false = refl

-- what stands at an address of shifted ranges
at_shifted : (by a : ℕ) (xs : List Range) → at moved (shifted by xs) a ≡ cond (leb by a) (at moved xs (a - by)) None
at_shifted by a [] = none_both (leb by a)
at_shifted by a (x ∷ xs) =
    let up : Range = record { start = by + x.start; length = x.length; label = x.label } in
    let ih = at_shifted by a xs in
    elim (cases_lt a by) [
      | inl low ↦ (let out : holds up a ≡ false = grind (arith, nat_tests) in
          at_not moved a up (shifted by xs) out ∙ ih ∙ cond-false _ _ _ (lt-leb by a low) ∙ sym (cond-false _ _ _ (lt-leb by a low)))
      | inr high ↦ (let from = le-leb by a high in
          let same : holds up a ≡ holds x (a - by) = grind (arith, nat_tests) in
          let far : a - (by + x.start) ≡ (a - by) - x.start = omega arith in
          let rest = ih ∙ cond-true _ _ _ from in
          at_cons moved a up (shifted by xs) ∙ (λ i. cond (same i) (Some (moved x.label (far i))) (rest i)) ∙ sym (at_cons moved (a - by) x xs) ∙ sym (cond-true _ _ _ from))
    ]

-- what stands at an address of what ranges hold below a size
at_cropped : (size a : ℕ) (xs : List Range) → at moved (cropped size xs) a ≡ below size (at moved xs) a
at_cropped size a [] = none_both (ltb a size)
at_cropped size a (x ∷ xs) =
    let cut : Range = record { start = x.start; length = min x.length (size - x.start); label = x.label } in
    let ih = at_cropped size a xs in
    elim (cases_lt x.start size) [
      | inl starts ↦ ap (λ z. at moved z a) (cond-true _ _ _ (lt-ltb x.start size starts)) ∙ elim (cases_lt a size) [
        | inl low ↦ (let same : holds cut a ≡ holds x a = grind (arith, nat_tests) in
            let rest = ih ∙ cond-true _ _ _ (lt-ltb a size low) in
            at_cons moved a cut (cropped size xs) ∙ (λ i. cond (same i) (Some (moved x.label (a - x.start))) (rest i)) ∙ sym (at_cons moved a x xs) ∙ sym (cond-true _ _ _ (lt-ltb a size low)))
        | inr high ↦ (let out : holds cut a ≡ false = grind (arith, nat_tests) in
            at_not moved a cut (cropped size xs) out ∙ ih ∙ cond-false _ _ _ (le-ltb a size high) ∙ sym (cond-false _ _ _ (le-ltb a size high)))
      ]
      | inr past ↦ ap (λ z. at moved z a) (cond-false _ _ _ (le-ltb x.start size past)) ∙ ih ∙ elim (cases_lt a size) [
        | inl low ↦ (let out : holds x a ≡ false = grind (arith, nat_tests) in ap (λ o. cond (ltb a size) o None) (sym (at_not moved a x xs out)))
        | inr high ↦ cond-false _ _ _ (le-ltb a size high) ∙ sym (cond-false _ _ _ (le-ltb a size high))
      ]
    ]

first_layer : (b c : Bool) (x y : Option Place) → or_else (cond b (cond c x None) None) (cond b y None) ≡ cond b (cond c (or_else x y) y) None
first_layer true true x y = refl
first_layer true false x y = refl
first_layer false true x y = refl
first_layer false false x y = refl

module _ (n : ℕ) (t : Model) (size : ℕ) (m : Bool) where
  -- what is found among the subregions cs, below the size
  abbrev among : List Attachment → ℕ → Option Place
  among cs = below size (λ a. first_of (look n t) cs a m)

  at_layer : (c : Attachment) (a : ℕ) → a < 2 ^ 40 → at moved (layer n t size m c) a ≡ cond (ltb a size) (cond (leb c.offset a) (look n t c.child (a - c.offset) m) None) None
  at_layer c a low =
      at_cropped size a (shifted c.offset (region_map n t c.child m))
      ∙ ap (λ o. cond (ltb a size) o None) (at_shifted c.offset a (region_map n t c.child m) ∙ ap (λ o. cond (leb c.offset a) o None) (at_chart (λ b. look n t c.child b m) (a - c.offset) (omega arith)))

  layers : (cs : List Attachment) → overlays (map (layer n t size m) cs) ≡ chart (among cs)
  layers [] = chart_is (among []) (λ a. None) [] (record { order = refl; settled = tt; labels = λ a. refl }) (λ a low. none_both (ltb a size))
  layers (c ∷ cs) =
      ap (overlay (layer n t size m c)) (layers cs) ∙ under_chart (at moved (layer n t size m c)) (among cs)
      ∙ chart_same _ _ (λ a low. ap (λ o. or_else o (among cs a)) (at_layer c a low) ∙ first_layer (ltb a size) (leb c.offset a) (look n t c.child (a - c.offset) m) (first_of (look n t) cs a m))

pub layered : (t : Model) → root_size t ≤ 2 ^ 40 → Layered t
unfolding search
layered t top = record {
  whole = chart_is (search t) (search t) (map_of t) (map_only t top).maximal (λ a low. refl);
  own = own;
  containers = λ n r m g is on body. chart_same _ _ (λ a low. under n r m g is on body a) ∙ sym (layers n t g.size (m || g.protected) (subregions t r));
}
  where
    past : (n r a : ℕ) (m : Bool) (g : Region) → region_at t r ≡ Some g → g.size ≤ a → look n t r a m ≡ None
    past zero r a m g is high = refl
    past (suc n) r a m g is high = in_beyond (look n t) t _ g r a m is high

    own : (n r : ℕ) (m : Bool) (g : Region) → region_at t r ≡ Some g → g.size ≤ 2 ^ 40 → region_map n t r m ≡ stretches moved same_place (λ a. look n t r a m) 0 g.size
    own n r m g is small =
        let f : ℕ → Option Place = λ a. look n t r a m in
        let all : below g.size f ≡ f = below_all f g.size (λ a high. past n r a m g is high) in
        sym (chart_is f (below g.size f) _ (stretches_map f g.size small) (λ a low. ap (λ h. h a) all))

    under : (n r : ℕ) (m : Bool) (g : Region) → region_at t r ≡ Some g → g.on ≡ true → g.body ≡ Container → (a : ℕ) → look (suc n) t r a m ≡ among n t g.size (m || g.protected) (subregions t r) a
    under n r m g is on body a = elim (cases_lt a g.size) [
      | inl low ↦ in_open (look n t) t _ g r a m Container is on low body ∙ sym (cond-true _ _ _ (lt-ltb a g.size low))
      | inr high ↦ past (suc n) r a m g is high ∙ sym (cond-false _ _ _ (le-ltb a g.size high))
    ]
