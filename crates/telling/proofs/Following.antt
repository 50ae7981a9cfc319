-- A listener that is told a change list follows the maps.
use Rattle.std.proofs.Common.{◌≡◌, ℕ, ◌+◌, ◌≤◌, Bool, true, false, not, List, [], ◌∷◌, length, Some, Ok, sym, refl, ap, ◌∙◌, subst, ⊎_elim, arith}
use Rattle.std.proofs.lemmas.Bool.{and_from, and_parts, cond-true, cond-false, lt-ltb, cases_Bool, or_left, or_right}
use Rattle.interval.specs.Edits.{put}
use Rattle.model.specs.declared.changes.Change.{Change}
use Rattle.model.specs.declared.changes.Change.TheVariants.{Removal, Addition}
use Rattle.model.specs.declared.kinds.Kind.{Kind}
use Rattle.model.specs.declared.kinds.Kind.TheVariants.{Ram}
use Rattle.model.specs.Ranges.{Range}
use Rattle.replay.specs.CarryOut.{carried, carry_from}
use Rattle.listener.specs.Hearing.{Hearing, Kept, with_held, admits}
use Rattle.diff.specs.Laws.{of_kinds, entries_of_kinds}
use Rattle.diff.proofs.Carrying.{removed_held, added_free}
use Rattle.diff.proofs.Rooms.{from_stepped, length_put}
use Rattle.telling.specs.Telling.{concerns, heard, told_one, told_all, welcome, all_welcome, FollowsMaps}

-- an entry of a taken kind that the held ranges let through, and for whose result there is room, is welcome
welcomed : (h : Hearing) (c : Change) (next : List Range) → concerns h c ≡ true → carried c h.held ≡ Some next → length next ≤ h.capacity → (welcome h c ≡ true) × (heard h c ≡ with_held h next)
welcomed h (Removal r) next k e le = let p = removed_held h.held r next e in (p.0, ap (with_held h) (sym p.1))
welcomed h (Addition r) next k e le =
    let p = added_free h.held r next e in
    let q = and_parts _ _ p.0 in
    let more = length_put h.held r in
    let long : length next ≡ length (put h.held r) = ap length p.1 in
    let ok : admits h r ≡ true = and_from _ _ q.0 (and_from _ _ k (and_from _ _ q.1 (lt-ltb (length h.held) h.capacity (omega arith)))) in
    (ok, ap (with_held h) (cond-true (admits h r) (put h.held r) h.held ok ∙ sym p.1))

-- what a table of as many records carries out, the listener makes of its held ranges, and refuses nothing
module _ (kinds : Kind → Bool) (capacity : ℕ) where
  abbrev hearing : List Range → Hearing
  hearing xs = record { held = xs; kinds = kinds; capacity = capacity }

  goes : (i : ℕ) (cs : List Change) (xs ys : List Range) → carry_from capacity i (entries_of_kinds kinds cs) xs ≡ Ok ys → (told_all (hearing xs) cs ≡ hearing ys) × (all_welcome (hearing xs) cs ≡ true)
  goes i [] xs ys e = let same : xs ≡ ys = cc in (ap hearing same, refl)
  goes i (c ∷ cs) xs ys e = ⊎_elim
      (λ k.
      let f = sym (ap (λ l. carry_from capacity i l xs) (cond-true (concerns (hearing xs) c) (c ∷ entries_of_kinds kinds cs) (entries_of_kinds kinds cs) k)) ∙ e in
      let s = from_stepped capacity i c (entries_of_kinds kinds cs) xs ys f in
      let w = welcomed (hearing xs) c s.next k s.first s.fits in
      let one : told_one (hearing xs) c ≡ hearing s.next = cond-true (concerns (hearing xs) c) _ _ k ∙ w.1 in
      let rest = goes (i + 1) cs s.next ys s.rest in
      (ap (λ h. told_all h cs) one ∙ rest.0, and_from _ _ (or_right _ _ w.0) (ap (λ h. all_welcome h cs) one ∙ rest.1)))
      (λ k.
      let f = sym (ap (λ l. carry_from capacity i l xs) (cond-false (concerns (hearing xs) c) (c ∷ entries_of_kinds kinds cs) (entries_of_kinds kinds cs) k)) ∙ e in
      let one : told_one (hearing xs) c ≡ hearing xs = cond-false (concerns (hearing xs) c) _ _ k in
      let rest = goes i cs xs ys f in
      (ap (λ h. told_all h cs) one ∙ rest.0, and_from _ _ (or_left _ _ (ap not k)) (ap (λ h. all_welcome h cs) one ∙ rest.1)))
      (cases_Bool (concerns (hearing xs) c))

pub follows : (h later : Hearing) (list : List Change) → Kept h → later ≡ told_all h list → FollowsMaps h later list
follows h later list kept is old new told held room =
    let few : length (of_kinds h.kinds old) ≤ h.capacity = subst (λ xs. length xs ≤ h.capacity) held kept.few in
    let done = goes h.kinds h.capacity 0 list h.held (of_kinds h.kinds new) (ap (carry_from h.capacity 0 (entries_of_kinds h.kinds list)) held ∙ (told h.kinds).in_table h.capacity 0 few room) in
    record { holds = is ∙ done.0; refuses = done.1 }

-- a range to stand where a list has none
abbrev pub blank : Range
blank = record { start = 0; length = 0; label = record { leaf = 0; device = 0; offset = 0; kind = Ram; writes = false } }
