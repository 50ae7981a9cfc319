-- Every place that a search finds, and every range of a map, lies in its leaf.
use Rattle.std.proofs.Common.{◌≡◌, ℕ, zero, suc, ◌+◌, ◌-◌, ◌%◌, ◌^◌, ◌<◌, ◌≤◌, Bool, true, eqb, leb, List, [], ◌∷◌, get_or, Some, None, Option, sym, refl, ap, ◌∙◌, subst, inl, inr, mod-eq_of_lt, arith}
use mathlib.Core.List.Memᴰ
use mathlib.Core.List.{Memᴰ}
use Rattle.std.proofs.lemmas.Bool.{and_parts, and_from, and_right, or_right, not_from_true, leb-true, le-leb, lt-ltb, le-ltb, cond-true, cond-false, cases_eq, eq-eqb, ne_eqb}
use Rattle.interval.specs.Stretches.{rising, stop, at}
use Rattle.interval.proofs.AtLaws.{at_yes, at_not}
use Rattle.interval.proofs.Spans.{rises}
use Rattle.model.specs.declared.places.Place.{Place}
use Rattle.model.specs.Places.{moved, moved_offset}
use Rattle.model.specs.Ranges.{Range}
use Rattle.tree.specs.declared.regions.Attachment.{Attachment}
use Rattle.tree.specs.declared.regions.Region.{Region}
use Rattle.tree.specs.Bounds.{bounded_body, bounded_region, bounded_regions}
use Rattle.tree.specs.Finds.{Finds, undefined_region, switched_off, beyond, leaf, alias, container, Tries, exhausted, before, found, missed}
use Rattle.tree.specs.Model.{Model}
use Rattle.tree.specs.Search.{is_rom}
use Rattle.flat.specs.Laws.{Lies, AllLie, RuledBy}

none_some : {X : Type 0} (p : X) → None ≡ Some p → ⊥
none_some p e = let z : ◌≡◌ {A = ℕ} 0 1 = cc in omega arith

some_same : {X : Type 0} (o : Option X) (p q : X) → o ≡ Some p → o ≡ Some q → p ≡ q
some_same o p q e f = cc

mutual
  finds_lies : {t : Model} {r a : ℕ} {m : Bool} {o : Option Place} → Finds t r a m o → (p : Place) → o ≡ Some p → Lies t p 1
  finds_lies (undefined_region is) p e = absurd (none_some p e)
  finds_lies (switched_off g is off) p e = absurd (none_some p e)
  finds_lies (beyond g is past) p e = absurd (none_some p e)
  finds_lies {t} {r} {a} {m} (leaf g d k here is) p e = subst (λ q. Lies t q 1) (some_same _ _ p refl e) (record {
    region = g;
    defined = here.defined;
    body = is;
    within = omega (arith, here.inside);
    fixed = λ rom. not_from_true _ (or_right _ (is_rom k) rom);
  })
  finds_lies (alias g s f here is d) p e = finds_lies d p e
  finds_lies (container g here is d) p e = tries_lies d p e

  tries_lies : {t : Model} {cs : List Attachment} {a : ℕ} {m : Bool} {o : Option Place} → Tries t cs a m o → (p : Place) → o ≡ Some p → Lies t p 1
  tries_lies exhausted p e = absurd (none_some p e)
  tries_lies (before lt d) p e = tries_lies d p e
  tries_lies (found le d) p e = finds_lies d p e
  tries_lies (missed le n d) p e = tries_lies d p e

-- a range of a rising list starts at its lower end or above
member_above : (low : ℕ) (x : Range) (xs : List Range) → rising low xs ≡ true → Memᴰ x xs → low ≤ x.start
member_above low x [] r m = absurd (Memᴰ.not-nil m)
member_above low x (y ∷ ys) r m =
    let p = rises low y ys r in
    elim (Memᴰ.cases_cons m) [
      | inl e ↦ omega (arith, p.above, ap (λ z. z.start) e)
      | inr n ↦ (let h = member_above (stop y) x ys p.rest n in omega (arith, p.above))
    ]

-- what a rising list gives the addresses of its ranges
at_member : (low i : ℕ) (x : Range) (xs : List Range) → rising low xs ≡ true → Memᴰ x xs → i < x.length → at moved xs (x.start + i) ≡ Some (moved x.label i)
at_member low i x [] r m lt = absurd (Memᴰ.not-nil m)
at_member low i x (y ∷ ys) r m lt =
    let p = rises low y ys r in
    let a = x.start + i in
    elim (Memᴰ.cases_cons m) [
      | inl e ↦ (let far : a - x.start ≡ i = omega arith in
          ap (λ z. at moved (z ∷ ys) a) (sym e) ∙ at_yes moved a x ys (and_from _ _ (le-leb x.start a (omega arith)) (lt-ltb a (stop x) (omega arith))) ∙ ap (λ j. Some (moved x.label j)) far)
      | inr n ↦ (let h = member_above (stop y) x ys p.rest n in
          at_not moved a y ys (and_right (leb y.start a) _ (le-ltb a (stop y) (omega arith))) ∙ at_member (stop y) i x ys p.rest n lt)
    ]

member_length : (low : ℕ) (x : Range) (xs : List Range) → rising low xs ≡ true → Memᴰ x xs → (0 < x.length) × (stop x ≤ 2 ^ 40)
member_length low x [] r m = absurd (Memᴰ.not-nil m)
member_length low x (y ∷ ys) r m =
    let p = rises low y ys r in
    elim (Memᴰ.cases_cons m) [
      | inl e ↦ (omega (arith, p.some, ap (λ z. z.length) e), omega (arith, p.under, ap (λ z. z.length) e, ap (λ z. z.start) e))
      | inr n ↦ member_length (stop y) x ys p.rest n
    ]

size_at : (gs : List (Option Region)) (n : ℕ) (g : Region) → bounded_regions gs ≡ true → get_or gs n None ≡ Some g → g.size ≤ 2 ^ 40
size_at [] n g h e = absurd (none_some g e)
size_at (o ∷ gs) zero g h e =
    let p : bounded_region (Some g) ≡ true = ap bounded_region (sym e) ∙ (and_parts (bounded_region o) (bounded_regions gs) h).0 in
    leb-true g.size (2 ^ 40) (and_parts _ (bounded_body g.body) (and_parts (leb 1 g.size) _ p).1).0
size_at (o ∷ gs) (suc n) g h e = size_at gs n g (and_parts (bounded_region o) (bounded_regions gs) h).1 e

unwrapped : (o i : ℕ) → o + i < 2 ^ 64 → moved_offset o i ≡ o + i
unwrapped o i fits = elim (cases_eq i 0) [
  | inl e ↦ (let z : o ≡ o + i = omega arith in cond-true (eqb i 0) o ((o + i) % 2 ^ 64) (eq-eqb i 0 e) ∙ z)
  | inr ne ↦ cond-false (eqb i 0) o ((o + i) % 2 ^ 64) (ne_eqb i 0 ne) ∙ mod-eq_of_lt fits
]

-- the first and the last byte of a range lie in one leaf, and the offsets between do not wrap
pub all_lie : (t : Model) (xs : List Range) → bounded_regions t.regions ≡ true → rising 0 xs ≡ true → RuledBy t xs → AllLie t xs
all_lie t xs sizes order rule x m =
    let l = member_length 0 x xs order m in
    let lies : (i : ℕ) → i < x.length → Lies t (moved x.label i) 1 = λ i lt. finds_lies ((rule (x.start + i) _).1 (at_member 0 i x xs order m lt)) _ refl in
    let first = lies 0 l.0 in
    let last = lies (x.length - 1) (omega arith) in
    let small = size_at t.regions x.label.leaf first.region sizes first.defined in
    let on = unwrapped x.label.offset (x.length - 1) (omega (arith, first.within)) in
    record {
      region = last.region;
      defined = last.defined;
      body = last.body;
      within = omega (arith, last.within);
      fixed = last.fixed;
    }
