-- The loop that joins a rising list in place.
use Rattle.std.proofs.Common.{◌≡◌, ℕ, suc, ◌+◌, ◌-◌, ◌^◌, ◌<◌, ◌≤◌, Bool, true, false, eqb, leb, List, [], ◌∷◌, ◌++◌, length, get_or, take, drop, set, sym, ap, ◌∙◌, append_assoc, add-one, arith}
use Rattle.std.proofs.lemmas.List.{at_drop_all, take_more_set, drop-set-lt, drop-drop, get_or-drop, get_or-take, set_split, length_push, length-take-le}
use Rattle.std.proofs.lemmas.Bool.{and_parts, leb-true, eqb-true, cond-true, cond-false}
use Rattle.interval.specs.declared.stretches.Stretch.{Stretch}
use Rattle.interval.specs.Stretches.{rising, ready, stop}
use Rattle.interval.specs.Edits.{runs_on, merged, join_from, join}
use Rattle.interval.proofs.Rest.{at_read}
use Rattle.interval.proofs.Spans.{Rises, rises}

module _ {L : Type 0} (adv : L → ℕ → L) (same : L → L → Bool) (start : List (Stretch L)) (used : ℕ) where
  -- the records below `kept` are done, `last` is the one at hand, and those from `k` on are to come
  pub record PartJoined (k kept : ℕ) (last : Stretch L) (table : List (Stretch L)) : Type 0 where
    pub behind : kept < k
    pub upto : k ≤ used
    pub rest : drop kept table ≡ drop kept start
    pub front : take kept table ++ join_from adv same last (drop k (take used start)) ≡ join adv same (take used start)
    pub order : rising (stop last) (drop k (take used start)) ≡ true
    pub under : stop last ≤ 2 ^ 40

  pub carried : (k i j : ℕ) (x y : Stretch L) (t u : List (Stretch L)) → i ≡ j → x ≡ y → t ≡ u → PartJoined k j y u → PartJoined k i x t
  carried k i j x y t u p q r h = rw (p, q, r) h

  module _ (ok : ready start used ≡ true) where
    within : used ≤ length start
    within = leb-true _ _ (and_parts (leb used (length start)) _ ok).0

    live : (k : ℕ) (x : Stretch L) → k < used → x ≡ get_or start k x → x ≡ get_or (take used start) k x
    live k x h read = read ∙ sym (get_or-take used start k x h)

    tails : (n : ℕ) (table : List (Stretch L)) → drop n table ≡ drop n start → drop (n + 1) table ≡ drop (n + 1) start
    tails n table e = sym (drop-drop 1 n table) ∙ ap (drop 1) e ∙ drop-drop 1 n start

    long : length (take used start) ≡ used
    long = length-take-le used start within

    module _ (k kept : ℕ) (last : Stretch L) (table : List (Stretch L)) (size : length table ≡ length start) (inv : PartJoined k kept last table) (more : k < used) (next : Stretch L) (read : next ≡ get_or table k next) where
      as_first : next ≡ get_or start k next
      as_first =
          let m : kept + (k - kept) ≡ k = omega (arith, inv.behind) in
          read ∙ ap (λ z. get_or table z next) (sym m) ∙ sym (get_or-drop kept table (k - kept) next) ∙ ap (λ z. get_or z (k - kept) next) inv.rest
          ∙ get_or-drop kept start (k - kept) next ∙ ap (λ z. get_or start z next) m

      pub next_rises : Rises (stop last) next (drop (k + 1) (take used start))
      next_rises = let n = long in rises (stop last) next _ (sym (at_read (rising (stop last)) (take used start) k next (omega arith) (live k next more as_first)) ∙ inv.order)

      -- both lengths are at most 2^40
      pub merged_fits : last.length + next.length < 2 ^ 64
      merged_fits = let p = next_rises in let h = inv.under in omega arith

      step : join_from adv same last (drop k (take used start)) ≡ join_from adv same last (next ∷ drop (k + 1) (take used start))
      step = let n = long in at_read (join_from adv same last) (take used start) k next (omega arith) (live k next more as_first)

      pub joined_merge : runs_on adv same last next ≡ true → PartJoined (k + 1) kept (merged last next) table
      joined_merge t =
          let p = next_rises in
          let touch : stop last ≡ next.start = eqb-true _ _ (and_parts (eqb (stop last) next.start) _ t).0 in
          let ends : stop next ≡ stop (merged last next) = omega arith in
          record {
            behind = omega arith;
            upto = omega arith;
            rest = inv.rest;
            front = ap (λ z. take kept table ++ z) (sym (step ∙ cond-true _ _ _ t)) ∙ inv.front;
            order = ap (λ z. rising z (drop (k + 1) (take used start))) (sym ends) ∙ p.rest;
            under = omega (arith, p.under);
          }

      pub joined_keep : runs_on adv same last next ≡ false → PartJoined (k + 1) (kept + 1) next (set table kept last)
      joined_keep f =
          let p = next_rises in
          record {
            behind = omega arith;
            upto = omega arith;
            rest = drop-set-lt (kept + 1) table kept last (omega arith) ∙ tails kept table inv.rest;
            front = ap (λ z. z ++ join_from adv same next (drop (k + 1) (take used start))) (take_more_set table kept last (omega (arith, within))) ∙ append_assoc (take kept table) (last ∷ []) _ ∙ ap (λ z. take kept table ++ z) (sym (step ∙ cond-false _ _ _ f)) ∙ inv.front;
            order = p.rest;
            under = p.under;
          }

    module _ (k kept : ℕ) (last : Stretch L) (table : List (Stretch L)) (size : length table ≡ length start) (inv : PartJoined k kept last table) (done : used ≤ k) where
      all : take kept table ++ (last ∷ []) ≡ join adv same (take used start)
      all = let n = long in ap (λ z. take kept table ++ z) (sym (at_drop_all (join_from adv same last) (take used start) k (omega arith))) ∙ inv.front

      pub joined_count : kept + 1 ≡ length (join adv same (take used start))
      joined_count = sym (length_push (take kept table) last ∙ ap (λ z. z + 1) (length-take-le kept table (omega (arith, inv.behind, inv.upto, within)))) ∙ ap length all

      pub joined_end : set table kept last ≡ join adv same (take used start) ++ drop (kept + 1) start
      joined_end =
          set_split table kept last (omega (arith, inv.behind, inv.upto, within)) ∙ sym (append_assoc (take kept table) (last ∷ []) (drop (suc kept) table))
          ∙ ap (λ z. z ++ drop (suc kept) table) all ∙ ap (λ z. join adv same (take used start) ++ drop z table) (sym (add-one kept))
          ∙ ap (λ z. join adv same (take used start) ++ z) (tails kept table inv.rest)
