-- What a search over a stretch of addresses sees, step by step.
use Rattle.std.proofs.Common.{◌≡◌, ℕ, ◌+◌, ◌-◌, ◌%◌, ◌^◌, ◌<◌, ◌≤◌, min, Bool, true, false, ◌||◌, eqb, List, ◌∷◌, length, get_or, drop, is_some as option_is_some, Some, None, Option, sym, refl, ap, ◌∙◌, subst, ⊎_elim, mod-eq_of_lt, arith}
use Rattle.std.specs.Option.{option_map}
use Rattle.std.proofs.lemmas.List.{drop_more}
use Rattle.std.proofs.lemmas.Bool.{true≢false, false≢true, cases_eq, cases_lt, cond-true, cond-false, eq-eqb, ne_eqb}
use Rattle.std.proofs.lemmas.Option.{none-some}
use Rattle.model.specs.declared.kinds.Kind.{Kind}
use Rattle.model.specs.declared.places.Place.{Place}
use Rattle.model.specs.Places.{moved, moved_offset}
use Rattle.tree.specs.declared.regions.Body.{Body}
use Rattle.tree.specs.declared.regions.Body.TheVariants.{Container, Leaf, Alias}
use Rattle.tree.specs.declared.regions.Region.{Region}
use Rattle.tree.specs.declared.regions.Attachment.{Attachment}
use Rattle.interval.specs.declared.sightings.Sighting.{Sighting}
use Rattle.tree.specs.Model.{Model, region_at, under, subregions}
use Rattle.tree.specs.Search.{Searcher, leaf_place, look, in_body, first_of, or_else}
use Rattle.interval.specs.Sightings.{nothing}
use Rattle.tree.specs.Sights.{Sees, SeesIn, SeesUnder, onward, Borders, ends, through, among, BordersUnder, begins, inside, later}
use Rattle.tree.proofs.Steps.{in_open, first_before, first_here, look_step}

pub sees_nothing : (f : ℕ → Option Place) (B : ℕ → Type 0) (limit : ℕ) (s : Sighting Place) → s ≡ nothing limit → ((i : ℕ) → f i ≡ None) → Sees f B limit s
sees_nothing f B limit s e h =
    subst (Sees f B limit) (sym e) (record { within = omega arith; some = λ p. p; same = λ i lt. h i; until = λ lt. absurd (omega arith); fits = λ p e. absurd (none-some p e) })

-- an offset that stays below 2^64 does not wrap
offset_moved : (a i : ℕ) → a + i < 2 ^ 64 → a + i ≡ moved_offset a i
offset_moved a i fits = ⊎_elim
    (λ e. (let z : a + i ≡ a = omega arith in z) ∙ sym (cond-true (eqb i 0) a ((a + i) % 2 ^ 64) (eq-eqb i 0 e)))
    (λ ne. sym (mod-eq_of_lt fits) ∙ sym (cond-false (eqb i 0) a ((a + i) % 2 ^ 64) (ne_eqb i 0 ne)))
    (cases_eq i 0)

-- the addresses from a on of a region that is switched on and has the address a; `short` is what is left of the limit up to its end
module _ (n : ℕ) (t : Model) (r a : ℕ) (m : Bool) (limit : ℕ) (more : 0 < n) (g : Region) (short : ℕ) (e : region_at t r ≡ Some g) (on : g.on ≡ true) (has : a < g.size) (cut : short ≡ min limit (g.size - a)) where
  -- B says where something begins or ends in the region's body
  sees_body : (b : Body) (B : ℕ → Type 0) (s : Sighting Place) → g.body ≡ b → ((i : ℕ) → B i → Borders t r a i) → Sees (λ i. in_body (look (n - 1) t) t b r (a + i) (m || g.protected)) B short s → SeesIn n t r a m limit s
  sees_body b B s is lift h = record {
    within = omega (arith, h.within);
    some = λ p. h.some (omega arith);
    same = λ i lt. look_step n t r (a + i) m more ∙ in_open (look (n - 1) t) t _ g r (a + i) m b e on (omega (arith, h.within)) is ∙ h.same i lt;
    until = λ lt. ⊎_elim (λ l. lift s.extent (h.until l)) (λ l. ends g e (omega (arith, h.within))) (cases_lt s.extent short);
    fits = h.fits;
  }

  pub sees_leaf : (d : ℕ) (k : Kind) (p : Place) → g.body ≡ Leaf d k → g.size ≤ 2 ^ 40 → p ≡ leaf_place r d k a (m || g.protected) → SeesIn n t r a m limit (record { label = Some p; extent = short })
  sees_leaf d k p is small place = sees_body (Leaf d k) (Borders t r a) _ is (λ i b. b) (record {
    within = omega arith;
    some = λ q. q;
    same = λ i lt. ap (λ o. Some (leaf_place r d k o (m || g.protected))) (offset_moved a i (omega arith)) ∙ ap (λ q. Some (moved q i)) (sym place);
    until = λ lt. absurd (omega arith);
    fits = λ q found. let at : q.offset ≡ a = cc in omega arith;
  })

  pub sees_alias : (q f : ℕ) (s : Sighting Place) → g.body ≡ Alias q f → SeesIn (n - 1) t q (a + f) (m || g.protected) short s → SeesIn n t r a m limit s
  sees_alias q f s is h = sees_body (Alias q f) (Borders t q (a + f)) s is (λ i b. through g q f e is b) (record {
    within = h.within;
    some = h.some;
    same = λ i lt. ap (λ x. look (n - 1) t q x (m || g.protected)) (let swap : (a + i) + f ≡ (a + f) + i = omega arith in swap) ∙ h.same i lt;
    until = h.until;
    fits = h.fits;
  })

  pub sees_container : (s : Sighting Place) → g.body ≡ Container → SeesUnder (n - 1) t (subregions t r) a (m || g.protected) short s → SeesIn n t r a m limit s
  sees_container s is = sees_body Container (BordersUnder t (subregions t r) a) s is (λ i b. among b)

-- Of the subregions `all`, `rest` are still to be tried: those before have no place in the first `limit` addresses from a on.
pub record Untried (t : Model) (down : Searcher) (all rest : List Attachment) (a : ℕ) (m : Bool) (start limit : ℕ) : Type 0 where
  pub within : limit ≤ start
  pub some : 0 < start → 0 < limit
  pub same : (i : ℕ) → i < limit → first_of down all (a + i) m ≡ first_of down rest (a + i) m
  pub until : limit < start → BordersUnder t all a limit
  pub part : (i : ℕ) → BordersUnder t rest a i → BordersUnder t all a i

under_same : (r : ℕ) (c : Attachment) (cs : List Attachment) → c.parent ≡ r → under r (c ∷ cs) ≡ c ∷ under r cs
under_same r c cs e = cond-true _ _ _ (eq-eqb c.parent r e)

module _ (t : Model) (down : Searcher) (all : List Attachment) (c : Attachment) (rest : List Attachment) (a : ℕ) (m : Bool) (start limit : ℕ) (h : Untried t down all (c ∷ rest) a m start limit) where
  untried_before : a < c.offset → Untried t down all rest a m start (min limit (c.offset - a))
  untried_before lt = record {
    within = omega (arith, h.within);
    some = λ p. let q = h.some p in omega arith;
    same = λ i l. h.same i (omega arith) ∙ first_before down c rest (a + i) m (omega arith);
    until = λ l. ⊎_elim
        (λ k. h.part _ (begins (omega arith)))
        (λ k. let e : min limit (c.offset - a) ≡ limit = omega arith in subst (BordersUnder t all a) (sym e) (h.until (omega arith)))
        (cases_lt (c.offset - a) limit);
    part = λ i b. h.part i (later b);
  }

  here : (s : Sighting Place) → c.offset ≤ a → Sees (λ i. down c.child ((a - c.offset) + i) m) (Borders t c.child (a - c.offset)) limit s → (i : ℕ) → i < s.extent → first_of down all (a + i) m ≡ or_else (onward s i) (first_of down rest (a + i) m)
  here s le sees i l =
      let shift : (a + i) - c.offset ≡ (a - c.offset) + i = omega arith in
      h.same i (omega (arith, sees.within)) ∙ first_here down c rest (a + i) m _ (omega arith) (ap (λ x. down c.child x m) shift ∙ sees.same i l)

  stop : (s : Sighting Place) → c.offset ≤ a → Sees (λ i. down c.child ((a - c.offset) + i) m) (Borders t c.child (a - c.offset)) limit s → s.extent < start → BordersUnder t all a s.extent
  stop s le sees lt = ⊎_elim
      (λ l. h.part _ (inside le (sees.until l)))
      (λ l. let e : s.extent ≡ limit = omega (arith, sees.within) in subst (BordersUnder t all a) (sym e) (h.until (omega arith)))
      (cases_lt s.extent limit)

  untried_missed : (s : Sighting Place) → c.offset ≤ a → Sees (λ i. down c.child ((a - c.offset) + i) m) (Borders t c.child (a - c.offset)) limit s → s.label ≡ None → Untried t down all rest a m start s.extent
  untried_missed s le sees e = record {
    within = omega (arith, h.within, sees.within);
    some = λ p. sees.some (h.some p);
    same = λ i l. here s le sees i l ∙ ap (λ o. or_else (option_map (λ p. moved p i) o) (first_of down rest (a + i) m)) e;
    until = stop s le sees;
    part = λ i b. h.part i (later b);
  }

  untried_found : (s : Sighting Place) (p : Place) → c.offset ≤ a → Sees (λ i. down c.child ((a - c.offset) + i) m) (Borders t c.child (a - c.offset)) limit s → s.label ≡ Some p → Sees (λ i. first_of down all (a + i) m) (BordersUnder t all a) start s
  untried_found s p le sees e = record {
    within = omega (arith, h.within, sees.within);
    some = λ q. sees.some (h.some q);
    same = λ i l. here s le sees i l ∙ ap (λ o. or_else (option_map (λ p. moved p i) o) (first_of down rest (a + i) m)) e ∙ sym (ap (λ o. option_map (λ p. moved p i) o) e);
    until = stop s le sees;
    fits = sees.fits;
  }

is_none : (o : Option Place) → false ≡ option_is_some o → o ≡ None
is_none None e = refl
is_none (Some p) e = absurd (false≢true e)

is_some : (o : Option Place) → true ≡ option_is_some o → (p : Place) × (o ≡ Some p)
is_some None e = absurd (true≢false e)
is_some (Some p) e = (p, refl)

-- one turn of the loop over the attachments: entry i of all of them
module _ (t : Model) (down : Searcher) (xs : List Attachment) (r i : ℕ) (d : Attachment) (a : ℕ) (m : Bool) (start limit : ℕ) (h : Untried t down (under r xs) (under r (drop i xs)) a m start limit) where
  ours : i < length xs → (get_or xs i d).parent ≡ r → Untried t down (under r xs) (get_or xs i d ∷ under r (drop (i + 1) xs)) a m start limit
  ours on e = subst (λ rest. Untried t down (under r xs) rest a m start limit) (ap (under r) (drop_more xs i d on) ∙ under_same r _ _ e) h

  pub turn_before : i < length xs → (get_or xs i d).parent ≡ r → a < (get_or xs i d).offset → Untried t down (under r xs) (under r (drop (i + 1) xs)) a m start (min limit ((get_or xs i d).offset - a))
  turn_before on e = untried_before t down _ _ _ a m start limit (ours on e)

  pub turn_missed : (s : Sighting Place) → i < length xs → (get_or xs i d).parent ≡ r → (get_or xs i d).offset ≤ a → Sees (λ j. down (get_or xs i d).child ((a - (get_or xs i d).offset) + j) m) (Borders t (get_or xs i d).child (a - (get_or xs i d).offset)) limit s → false ≡ option_is_some s.label → Untried t down (under r xs) (under r (drop (i + 1) xs)) a m start s.extent
  turn_missed s on e le sees none = untried_missed t down _ _ _ a m start limit (ours on e) s le sees (is_none _ none)

  pub turn_found : (s : Sighting Place) → i < length xs → (get_or xs i d).parent ≡ r → (get_or xs i d).offset ≤ a → Sees (λ j. down (get_or xs i d).child ((a - (get_or xs i d).offset) + j) m) (Borders t (get_or xs i d).child (a - (get_or xs i d).offset)) limit s → true ≡ option_is_some s.label → Sees (λ j. first_of down (under r xs) (a + j) m) (BordersUnder t (under r xs) a) start s
  turn_found s on e le sees some = let p = is_some _ some in untried_found t down _ _ _ a m start limit (ours on e) s p.0 le sees p.1

-- a sighting's place is what is found at its first address
pub sees_first : (f : ℕ → Option Place) (B : ℕ → Type 0) (limit : ℕ) (s : Sighting Place) → 0 < limit → Sees f B limit s → s.label ≡ f 0
sees_first f B limit s lt h = unmoved s.label ∙ sym (h.same 0 (h.some lt))
  where
    unmoved : (o : Option Place) → o ≡ option_map (λ p. moved p 0) o
    unmoved None = refl
    unmoved (Some p) = refl
