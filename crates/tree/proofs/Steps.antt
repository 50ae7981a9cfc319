-- What one step of the search does.
use Rattle.std.proofs.Common.{◌≡◌, ℕ, zero, suc, ◌-◌, ◌<◌, ◌≤◌, Bool, true, false, ◌||◌, ltb, List, ◌∷◌, Some, None, Option, refl, ap, ◌∙◌, subst, arith}
use Rattle.std.proofs.lemmas.Bool.{and_from, and_left, and_right, cond-true, cond-false, lt-ltb, le-ltb, le-leb, lt-leb}
use Rattle.model.specs.declared.places.Place.{Place}
use Rattle.tree.specs.declared.regions.Body.{Body}
use Rattle.tree.specs.declared.regions.Region.{Region}
use Rattle.tree.specs.declared.regions.Attachment.{Attachment}
use Rattle.tree.specs.Model.{Model, region_at}
use Rattle.tree.specs.Search.{Searcher, look, in_region, in_body, first_of, or_else, search, size_of, root_size}

module _ (down : Searcher) (t : Model) where
  pub in_undefined : (o : Option Region) (r a : ℕ) (m : Bool) → o ≡ None → in_region down t o r a m ≡ None
  in_undefined o r a m e = ap (λ x. in_region down t x r a m) e

  pub in_off : (o : Option Region) (g : Region) (r a : ℕ) (m : Bool) → o ≡ Some g → g.on ≡ false → in_region down t o r a m ≡ None
  in_off o g r a m e off = ap (λ x. in_region down t x r a m) e ∙ cond-false _ _ _ (and_left g.on (ltb a g.size) off)

  pub in_beyond : (o : Option Region) (g : Region) (r a : ℕ) (m : Bool) → o ≡ Some g → g.size ≤ a → in_region down t o r a m ≡ None
  in_beyond o g r a m e past = ap (λ x. in_region down t x r a m) e ∙ cond-false _ _ _ (and_right g.on (ltb a g.size) (le-ltb a g.size past))

  pub in_open : (o : Option Region) (g : Region) (r a : ℕ) (m : Bool) (b : Body) → o ≡ Some g → g.on ≡ true → a < g.size → g.body ≡ b → in_region down t o r a m ≡ in_body down t b r a (m || g.protected)
  in_open o g r a m b e on inside is =
      ap (λ x. in_region down t x r a m) e ∙ cond-true _ _ _ (and_from g.on (ltb a g.size) on (lt-ltb a g.size inside)) ∙ ap (λ x. in_body down t x r a (m || g.protected)) is

module _ (down : Searcher) (c : Attachment) (cs : List Attachment) (a : ℕ) (m : Bool) where
  pub first_before : a < c.offset → first_of down (c ∷ cs) a m ≡ first_of down cs a m
  first_before h = cond-false _ _ _ (lt-leb c.offset a h)

  pub first_here : (o : Option Place) → c.offset ≤ a → down c.child (a - c.offset) m ≡ o → first_of down (c ∷ cs) a m ≡ or_else o (first_of down cs a m)
  first_here o h e = cond-true _ _ _ (le-leb c.offset a h) ∙ ap (λ x. or_else x (first_of down cs a m)) e

-- with fuel left the search goes into the region
pub look_step : (n : ℕ) (t : Model) (r a : ℕ) (m : Bool) → 0 < n → look n t r a m ≡ in_region (look (n - 1) t) t (region_at t r) r a m
look_step zero t r a m h = absurd (omega arith)
look_step (suc n) t r a m h = let back : n ≡ suc n - 1 = omega arith in ap (λ k. in_region (look k t) t (region_at t r) r a m) back

-- from the size of the root on nothing is found
pub search_beyond : (t : Model) (a : ℕ) → root_size t ≤ a → search t a ≡ None
unfolding search
search_beyond t a past = by_root (region_at t 0) refl past
  where
    by_root : (o : Option Region) → region_at t 0 ≡ o → root_size t ≤ a → search t a ≡ None
    by_root None e le = in_undefined (look 8 t) t _ 0 a false e
    by_root (Some g) e le = in_beyond (look 8 t) t _ g 0 a false e (subst (λ o. size_of o ≤ a) e le)
