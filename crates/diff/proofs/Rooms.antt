-- Carrying out in a table: the rule without a table's bound, and lists that fit.
use Rattle.std.proofs.Common.{◌≡◌, ℕ, suc, ◌+◌, ◌≤◌, true, ltb, leb, List, [], ◌∷◌, ◌++◌, map, length, Some, None, Ok, Err, filter, Option, Result, sym, refl, ap, ◌∙◌, inl, inr, add-zero, arith}
use Rattle.std.proofs.lemmas.Bool.{le-leb, leb-true, cond-true, cond-false, cond_both, cases_Bool}
use Rattle.interval.specs.Stretches.{rising}
use Rattle.interval.specs.Edits.{put}
use Rattle.model.specs.declared.changes.Change.{Change}
use Rattle.model.specs.declared.changes.Change.TheVariants.{Removal, Addition}
use Rattle.model.specs.Ranges.{Range, same_range, listed, without}
use Rattle.replay.specs.declared.failures.Failure.{Failure}
use Rattle.replay.specs.declared.failures.Failure.TheVariants.{Entry, Full}
use Rattle.replay.specs.CarryOut.{carried, fit, and_then as then_carry, carry_from}
use Rattle.diff.specs.ChangeLists.{missing, changes}
use Rattle.diff.specs.Laws.{carry_out, Replays, OneRule}
use Rattle.diff.proofs.Carrying.{stepped, step, removed_held, added_free, removals_done, additions_done, changes_done}

pub from_append : (room i : ℕ) (cs ds : List Change) (h : List Range) → carry_from room i (cs ++ ds) h ≡ then_carry (carry_from room i cs h) (carry_from room (i + length cs) ds)
from_append room i [] ds h = ap (λ n. carry_from room n ds h) (sym (add-zero i))
from_append room i (c ∷ cs) ds h = go (fit room i (carried c h)) (λ k. from_append room (i + 1) cs ds k)
  where
    go : (r : Result (List Range) Failure) → ((k : List Range) → carry_from room (i + 1) (cs ++ ds) k ≡ then_carry (carry_from room (i + 1) cs k) (carry_from room (i + 1 + length cs) ds))
        → then_carry r (carry_from room (i + 1) (cs ++ ds)) ≡ then_carry (then_carry r (carry_from room (i + 1) cs)) (carry_from room (i + suc (length cs)) ds)
    go (Ok k) rest = let n : i + 1 + length cs ≡ i + suc (length cs) = omega arith in rest k ∙ ap (λ m. then_carry (carry_from room (i + 1) cs k) (carry_from room m ds)) n
    go (Err e) rest = refl

-- the first entry of a list that a table carries out, and the others
pub record FromStep (room i : ℕ) (c : Change) (cs : List Change) (h k : List Range) : Type 0 where
  pub next : List Range
  pub first : carried c h ≡ Some next
  pub fits : length next ≤ room
  pub rest : carry_from room (i + 1) cs next ≡ Ok k

pub from_stepped : (room i : ℕ) (c : Change) (cs : List Change) (h k : List Range) → carry_from room i (c ∷ cs) h ≡ Ok k → FromStep room i c cs h k
from_stepped room i c cs h k e = go (carried c h) refl
  where
    go : (o : Option (List Range)) → carried c h ≡ o → FromStep room i c cs h k
    go None is = absurd (let never : Err (Entry i) ≡ Ok k = sym (ap (λ o. then_carry (fit room i o) (carry_from room (i + 1) cs)) is) ∙ e in let z : ◌≡◌ {A = ℕ} 0 1 = cc in omega arith)
    go (Some n) is =
        let on = sym (ap (λ o. then_carry (fit room i o) (carry_from room (i + 1) cs)) is) ∙ e in
        elim (cases_Bool (leb (length n) room)) [
          | inl fits ↦ record { next = n; first = is; fits = leb-true _ _ fits; rest = sym (ap (λ r. then_carry r (carry_from room (i + 1) cs)) (cond-true (leb (length n) room) (Ok n) (Err (Full i)) fits)) ∙ on }
          | inr full ↦ absurd (let never : Err (Full i) ≡ Ok k = sym (ap (λ r. then_carry r (carry_from room (i + 1) cs)) (cond-false (leb (length n) room) (Ok n) (Err (Full i)) full)) ∙ on in let z : ◌≡◌ {A = ℕ} 0 1 = cc in omega arith)
        ]

pub from_step : (room i : ℕ) (c : Change) (cs : List Change) (h next : List Range) → carried c h ≡ Some next → length next ≤ room → carry_from room i (c ∷ cs) h ≡ carry_from room (i + 1) cs next
from_step room i c cs h next e le =
    ap (λ o. then_carry (fit room i o) (carry_from room (i + 1) cs)) e ∙ ap (λ r. then_carry r (carry_from room (i + 1) cs)) (cond-true _ _ _ (le-leb _ _ le))

pub length_without : (xs : List Range) (r : Range) → length (without xs r) ≤ length xs
length_without [] r = omega arith
length_without (x ∷ xs) r = cond_both (same_range x r) xs (x ∷ without xs r) (λ l. length l ≤ suc (length xs)) (λ _. omega arith) (λ _. omega (arith, length_without xs r))

pub length_put : (xs : List Range) (s : Range) → length (put xs s) ≡ suc (length xs)
length_put [] s = refl
length_put (x ∷ xs) s = cond_both (ltb x.start s.start) (x ∷ put xs s) (s ∷ x ∷ xs) (λ l. length l ≡ suc (suc (length xs))) (λ _. ap suc (length_put xs s)) (λ _. refl)

-- an entry adds one range at most
grows_by_one : (c : Change) (h next : List Range) → carried c h ≡ Some next → length next ≤ suc (length h)
grows_by_one (Removal r) h next e = omega (arith, ap length (removed_held h r next e).1, length_without h r)
grows_by_one (Addition r) h next e = omega (arith, ap length (added_free h r next e).1, length_put h r)

from_table : (room i : ℕ) (cs : List Change) (h k : List Range) → carry_from room i cs h ≡ Ok k → carry_out cs h ≡ Some k
from_table room i [] h k e = let same : h ≡ k = cc in ap Some same
from_table room i (c ∷ cs) h k e = let s = from_stepped room i c cs h k e in step c cs h s.next s.first ∙ from_table room (i + 1) cs s.next k s.rest

to_table : (room i : ℕ) (cs : List Change) (h k : List Range) → length h + length cs ≤ room → carry_out cs h ≡ Some k → carry_from room i cs h ≡ Ok k
to_table room i [] h k le e = let same : h ≡ k = cc in ap Ok same
to_table room i (c ∷ cs) h k le e =
    let s = stepped c cs h k e in
    let more = grows_by_one c h s.next s.first in
    from_step room i c cs h s.next s.first (omega arith) ∙ to_table room (i + 1) cs s.next k (omega arith) s.rest

pub one_rule : OneRule
one_rule = record { from_table = from_table; to_table = to_table }

-- removals need no more room than what is held at first
removals_fit : (room i : ℕ) (rs h k : List Range) → carry_out (map Removal rs) h ≡ Some k → length h ≤ room → carry_from room i (map Removal rs) h ≡ Ok k
removals_fit room i [] h k e le = let same : h ≡ k = cc in ap Ok same
removals_fit room i (r ∷ rs) h k e le =
    let s = stepped (Removal r) (map Removal rs) h k e in
    let held = ap length (removed_held h r s.next s.first).1 in
    let short : length s.next ≤ room = omega (arith, length_without h r) in
    from_step room i (Removal r) (map Removal rs) h s.next s.first short ∙ removals_fit room (i + 1) rs s.next k s.rest short

-- additions need no more room than what is held in the end
additions_grow : (rs h k : List Range) → carry_out (map Addition rs) h ≡ Some k → length h ≤ length k
additions_grow [] h k e = let same : h ≡ k = cc in omega (arith, ap length same)
additions_grow (r ∷ rs) h k e =
    let s = stepped (Addition r) (map Addition rs) h k e in
    omega (arith, ap length (added_free h r s.next s.first).1, length_put h r, additions_grow rs s.next k s.rest)

additions_fit : (room i : ℕ) (rs h k : List Range) → carry_out (map Addition rs) h ≡ Some k → length k ≤ room → carry_from room i (map Addition rs) h ≡ Ok k
additions_fit room i [] h k e le = let same : h ≡ k = cc in ap Ok same
additions_fit room i (r ∷ rs) h k e le =
    let s = stepped (Addition r) (map Addition rs) h k e in
    from_step room i (Addition r) (map Addition rs) h s.next s.first (omega (arith, additions_grow rs s.next k s.rest)) ∙ additions_fit room (i + 1) rs s.next k s.rest le

pub replays : (low low' : ℕ) (old new : List Range) → rising low old ≡ true → rising low' new ≡ true → Replays old new (changes old new)
replays low low' old new up up' = record {
  gives = changes_done low low' old new up up';
  in_table = λ room i a b.
      let outs = map Removal (missing old new) in
      let ins = map Addition (missing new old) in
      from_append room i outs ins old
      ∙ ap (λ r. then_carry r (carry_from room (i + length outs) ins)) (removals_fit room i (missing old new) old (filter (listed old) new) (removals_done low low' old new up up') a)
      ∙ additions_fit room (i + length outs) (missing new old) (filter (listed old) new) new (additions_done low low' old new up up') b;
}
