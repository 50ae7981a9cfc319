-- What follows from the meaning of a listener, whatever listener it is.
use Rattle.std.proofs.Common.{◌≡◌, ◌<◌, Bool, true, false, not, ◌&&◌, ◌||◌, ltb, ◌⊎◌, List, is_err, Result, sym, ap, ◌∙◌, inl, inr}
use Rattle.std.proofs.lemmas.Bool.{and_parts, or_cases, or_right, ltb-true, cond-true, cond-false, cond_both}
use Rattle.interval.specs.Stretches.{stop, lawful}
use Rattle.interval.specs.Edits.{free}
use Rattle.model.specs.Ranges.{Range, same_range, listed, without}
use Rattle.listener.specs.declared.listener.Refused.{Refused}
use Rattle.listener.specs.Hearing.{Hearing, admits, with_held, added, removed, answered, Kept, OfKinds, SetLaws}
use Rattle.listener.specs.Sets.{same_true, listed_put, free_unlisted, without_put, disjoint, clear, listed_without}

-- what an answer says
pub answer_is : (b e : Bool) (o : Result (Unit {0}) Refused) → o ≡ answered b → e ≡ is_err o → not e ≡ b
answer_is true e o p q = ap not (q ∙ ap is_err p)
answer_is false e o p q = ap not (q ∙ ap is_err p)

module _ (h : Hearing) (r : Range) where
  -- what a range that is taken has
  admitted : admits h r ≡ true → (0 < r.length) × (free r.start (stop r) h.held ≡ true)
  admitted a =
      let p = and_parts (lawful r.start r.length) _ a in
      let q = and_parts (h.kinds r.label.kind) _ p.1 in
      let s = and_parts (free r.start (stop r) h.held) _ q.1 in
      (ltb-true 0 r.length (and_parts (ltb 0 r.length) _ p.0).0, s.0)

  pub stays_refused : admits h r ≡ false → added h r ≡ h
  stays_refused a = ap (with_held h) (cond-false _ _ _ a)

  taken_back : admits h r ≡ true → removed (added h r) r ≡ h
  taken_back a =
      let p = admitted a in
      ap (λ xs. with_held h (without xs r)) (cond-true _ _ _ a) ∙ ap (with_held h) (without_put h.held r (free_unlisted r h.held p.0 p.1))

  gained : (q : Range) → listed (added h r).held q ≡ ((admits h r && same_range r q) || listed h.held q)
  gained q =
      let Same : List Range → Type 0 = λ xs. listed xs q ≡ ((admits h r && same_range r q) || listed h.held q) in
      let at : (t : Bool) → admits h r ≡ t → ((t && same_range r q) || listed h.held q) ≡ ((admits h r && same_range r q) || listed h.held q) = λ t e. ap (λ u. (u && same_range r q) || listed h.held q) (sym e) in
      cond_both (admits h r) _ _ Same (λ e. listed_put q h.held r ∙ at true e) (λ e. at false e)

  kinds_gained : OfKinds h → OfKinds (added h r)
  kinds_gained k q m = go (or_cases (admits h r && same_range r q) _ (sym (gained q) ∙ m))
    where
      go : ((admits h r && same_range r q) ≡ true) ⊎ (listed h.held q ≡ true) → h.kinds q.label.kind ≡ true
      go (inl e) =
          let p = and_parts (admits h r) (same_range r q) e in
          let a = and_parts (lawful r.start r.length) _ p.0 in
          ap (λ t. h.kinds t.label.kind) (sym (same_true r q p.1)) ∙ (and_parts (h.kinds r.label.kind) _ a.1).0
      go (inr n) = k q n

  pub set_laws : Kept h → SetLaws h r
  set_laws k =
      let lost : (q : Range) → listed (removed h r).held q ≡ (not (same_range r q) && listed h.held q) = λ q. listed_without 0 h.held r q k.rises in
      record {
        disjoint = disjoint 0 h.held k.rises;
        clear = clear 0 h.held r k.rises;
        gains = gained;
        loses = lost;
        back = taken_back;
        kinds_added = kinds_gained;
        kinds_removed = λ o q m. o q (and_parts (not (same_range r q)) _ (sym (lost q) ∙ m)).1;
      }

  -- an addition that was taken, and then the removal
  pub probed : (h' h'' : Hearing) → admits h r ≡ true → h' ≡ added h r → h'' ≡ removed h' r → h'' ≡ h
  probed h' h'' a e f = f ∙ ap (λ t. removed t r) e ∙ taken_back a

  -- an addition takes nothing away
  pub still_held : (q : Range) → listed h.held q ≡ true → listed (added h r).held q ≡ true
  still_held q m = gained q ∙ or_right (admits h r && same_range r q) _ m
