-- Where no path has more than 8 edges, the relation and the function agree.
use Rattle.std.proofs.Common.{◌≡◌, ℕ, zero, suc, ◌+◌, ◌-◌, ◌<◌, ◌≤◌, Bool, true, false, ◌||◌, eqb, ◌⊎◌, List, [], ◌∷◌, Some, None, Option, sym, refl, ◌∙◌, subst, inl, inr, ⊎_elim, arith}
use Rattle.std.proofs.lemmas.Bool.{cond-true, cond-false, cases_Bool, cases_lt, eqb-true}
use Rattle.model.specs.declared.places.Place.{Place}
use Rattle.tree.specs.declared.regions.Body.{Body}
use Rattle.tree.specs.declared.regions.Body.TheVariants.{Container, Leaf, Alias}
use Rattle.tree.specs.declared.regions.Region.{Region}
use Rattle.tree.specs.declared.regions.Attachment.{Attachment}
use Rattle.interval.specs.declared.sightings.Sighting.{Sighting}
use Rattle.tree.specs.Model.{Model, region_at, under, subregions}
use Rattle.tree.specs.Search.{look, first_of, search}
use Rattle.tree.specs.Finds.{Open, Finds, Tries, undefined_region, switched_off, beyond, leaf, alias, container, exhausted, before, found, missed}
use Rattle.tree.specs.Paths.{Holds, Edge, holds, shows, Path, stay, go}
use Rattle.tree.specs.Sights.{Agrees, Ruled, onward}
use Rattle.tree.proofs.Steps.{in_undefined, in_off, in_beyond, in_open, first_before, first_here}

-- region s is among the children
abbrev Child : ℕ → List Attachment → Type 0
Child s [] = ⊥
Child s (c ∷ cs) = (c.child ≡ s) ⊎ Child s cs

child_held : (s r : ℕ) (cs : List Attachment) → Child s (under r cs) → Holds r s cs
child_held s r [] i = i
child_held s r (c ∷ cs) i = ⊎_elim
    (λ e. ⊎_elim (λ u. inl (eqb-true _ _ e, u)) (λ u. inr (child_held s r cs u)) (first e i))
    (λ e. inr (child_held s r cs (subst (Child s) (cond-false (eqb c.parent r) (c ∷ under r cs) (under r cs) e) i)))
    (cases_Bool (eqb c.parent r))
  where
    first : eqb c.parent r ≡ true → Child s (under r (c ∷ cs)) → (c.child ≡ s) ⊎ Child s (under r cs)
    first e i = subst (Child s) (cond-true (eqb c.parent r) (c ∷ under r cs) (under r cs) e) i

-- every path from r has fewer than n edges
abbrev Short : Model → ℕ → ℕ → Type 0
Short t r n = (k q : ℕ) → Path t r k q → k < n

shorter : {t : Model} {r s n : ℕ} → Edge t r s → Short t r (suc n) → Short t s n
shorter e h k q w = let l = h (suc k) q (go e w) in omega arith

-- the search with fuel n from r ends with o, where n suffices
abbrev Looks : Model → ℕ → ℕ → Bool → Option Place → Type 0
Looks t r a m o = (n : ℕ) → Short t r n → look n t r a m ≡ o

looks : (t : Model) (r a : ℕ) (m : Bool) (o : Option Place) → ((n : ℕ) → Short t r (suc n) → look (suc n) t r a m ≡ o) → Looks t r a m o
looks t r a m o f zero h = let l = h 0 r stay in absurd (omega arith)
looks t r a m o f (suc n) h = f n h

mutual
  found_looks : {t : Model} {r a : ℕ} {m : Bool} {o : Option Place} → Finds t r a m o → Looks t r a m o
  found_looks {t} {r} {a} {m} (undefined_region e) = looks t r a m _ (λ n h. in_undefined (look n t) t _ r a m e)
  found_looks {t} {r} {a} {m} (switched_off g e off) = looks t r a m _ (λ n h. in_off (look n t) t _ g r a m e off)
  found_looks {t} {r} {a} {m} (beyond g e past) = looks t r a m _ (λ n h. in_beyond (look n t) t _ g r a m e past)
  found_looks {t} {r} {a} {m} (leaf g d k p is) = looks t r a m _ (λ n h. in_open (look n t) t _ g r a m _ p.defined p.on p.inside is)
  found_looks {t} {r} {a} {m} (alias g s f p is d) =
      looks t r a m _ (λ n h. in_open (look n t) t _ g r a m _ p.defined p.on p.inside is ∙ found_looks d n (shorter (shows g f p.defined is) h))
  found_looks {t} {r} {a} {m} (container g p is d) =
      looks t r a m _ (λ n h. in_open (look n t) t _ g r a m _ p.defined p.on p.inside is ∙ tried_first d n (λ s i. shorter (holds (child_held s r t.attachments i)) h))

  tried_first : {t : Model} {cs : List Attachment} {a : ℕ} {m : Bool} {o : Option Place} → Tries t cs a m o → (n : ℕ) → ((s : ℕ) → Child s cs → Short t s n) → first_of (look n t) cs a m ≡ o
  tried_first exhausted n h = refl
  tried_first {t} {a = a} {m} (before {c = c} {cs = cs} lt d) n h = first_before (look n t) c cs a m lt ∙ tried_first d n (λ s i. h s (inr i))
  tried_first {t} {a = a} {m} (found {c = c} {cs = cs} le f) n h = first_here (look n t) c cs a m _ le (found_looks f n (h c.child (inl refl)))
  tried_first {t} {a = a} {m} (missed {c = c} {cs = cs} le f d) n h =
      first_here (look n t) c cs a m _ le (found_looks f n (h c.child (inl refl))) ∙ tried_first d n (λ s i. h s (inr i))

-- the search with fuel n, as the relation has it
abbrev Found : Model → ℕ → Type 0
Found t n = (r a : ℕ) (m : Bool) → Short t r n → Finds t r a m (look n t r a m)

first_tries : (t : Model) (n : ℕ) → Found t n → (cs : List Attachment) → ((s : ℕ) → Child s cs → Short t s n) → (a : ℕ) (m : Bool) → Tries t cs a m (first_of (look n t) cs a m)
first_tries t n ih [] h a m = exhausted
first_tries t n ih (c ∷ cs) h a m =
    let rest = first_tries t n ih cs (λ s i. h s (inr i)) a m in
    ⊎_elim
    (λ lt. subst (Tries t (c ∷ cs) a m) (sym (first_before (look n t) c cs a m lt)) (before lt rest))
    (λ le. here le (look n t c.child (a - c.offset) m) refl (ih c.child (a - c.offset) m (h c.child (inl refl))) rest)
    (cases_lt a c.offset)
  where
    here : c.offset ≤ a → (o : Option Place) → look n t c.child (a - c.offset) m ≡ o → Finds t c.child (a - c.offset) m (look n t c.child (a - c.offset) m) → Tries t cs a m (first_of (look n t) cs a m) → Tries t (c ∷ cs) a m (first_of (look n t) (c ∷ cs) a m)
    here le (Some p) e f rest = subst (Tries t (c ∷ cs) a m) (sym (first_here (look n t) c cs a m _ le e)) (found le (subst (Finds t c.child (a - c.offset) m) e f))
    here le None e f rest = subst (Tries t (c ∷ cs) a m) (sym (first_here (look n t) c cs a m _ le e)) (missed le (subst (Finds t c.child (a - c.offset) m) e f) rest)

look_finds : (t : Model) (n : ℕ) → Found t n
look_finds t zero r a m h = let l = h 0 r stay in absurd (omega arith)
look_finds t (suc n) r a m h = by_region (region_at t r) refl (look_finds t n)
  where
    by_body : (g : Region) → Open t r a g → (b : Body) → g.body ≡ b → Found t n → Finds t r a m (look (suc n) t r a m)
    by_body g p Container is ih =
        subst (Finds t r a m) (sym (in_open (look n t) t _ g r a m _ p.defined p.on p.inside is))
        (container g p is (first_tries t n ih (subregions t r) (λ s i. shorter (holds (child_held s r t.attachments i)) h) a (m || g.protected)))
    by_body g p (Leaf d k) is ih =
        subst (Finds t r a m) (sym (in_open (look n t) t _ g r a m _ p.defined p.on p.inside is)) (leaf g d k p is)
    by_body g p (Alias s f) is ih =
        subst (Finds t r a m) (sym (in_open (look n t) t _ g r a m _ p.defined p.on p.inside is))
        (alias g s f p is (ih s (a + f) (m || g.protected) (shorter (shows g f p.defined is) h)))

    by_region : (o : Option Region) → region_at t r ≡ o → Found t n → Finds t r a m (look (suc n) t r a m)
    by_region None e ih = subst (Finds t r a m) (sym (in_undefined (look n t) t _ r a m e)) (undefined_region e)
    by_region (Some g) e ih =
        ⊎_elim
        (λ on. ⊎_elim
        (λ lt. by_body g (record { defined = e; on = on; inside = lt }) g.body refl ih)
        (λ le. subst (Finds t r a m) (sym (in_beyond (look n t) t _ g r a m e le)) (beyond g e le))
        (cases_lt a g.size))
        (λ off. subst (Finds t r a m) (sym (in_off (look n t) t _ g r a m e off)) (switched_off g e off))
        (cases_Bool g.on)

module _ (t : Model) (law : (r s n : ℕ) → Path t r n s → n ≤ 8) where
  short : (n r : ℕ) → 8 < n → Short t r n
  short n r more k q w = let l = law r q k w in omega arith

  pub agrees : Agrees t
  agrees n r a m o more = (λ d. found_looks d n (short n r more), λ e. subst (Finds t r a m) e (look_finds t n r a m (short n r more)))

  -- what holds of the function at the addresses of a sighting holds of the relation
  pub ruled : (a : ℕ) (s : Sighting Place) → ((i : ℕ) → i < s.extent → search t (a + i) ≡ onward s i) → Ruled t a s
  unfolding search
  ruled a s same = record {
    finds = λ i lt. (agrees 9 0 (a + i) false _ (omega arith)).1 (same i lt);
    only = λ i o lt d. sym ((agrees 9 0 (a + i) false o (omega arith)).0 d) ∙ same i lt;
  }
