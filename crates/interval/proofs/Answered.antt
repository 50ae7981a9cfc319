-- What the calls' definitions come to where the checks have passed.
use Rattle.std.proofs.Common.{◌≡◌, ℕ, ◌+◌, ◌^◌, ◌<◌, ◌≤◌, Bool, true, false, cond, eqb, leb, ltb, List, [], ◌∷◌, ◌++◌, length, take, drop, Ok, Err, Some, None, Result, sym, ap, ◌∙◌, arith, length-take}
use Rattle.std.proofs.lemmas.List.{take-take, append-nil}
use Rattle.std.proofs.lemmas.Slice.{between_is}
use Rattle.std.specs.List.{between as part}
use Rattle.std.specs.Option.{option_to_list}
use Rattle.std.proofs.lemmas.List.Sums.{prefix_len-le-length}
use Rattle.std.proofs.lemmas.Bool.{and_parts, leb-true, le-leb, lt-leb, cond-true, cond-false}
use Rattle.std.proofs.lemmas.Bool.Decides.{nat_tests}
use Rattle.interval.specs.declared.refusals.Refusal.{Refusal}
use Rattle.interval.specs.declared.refusals.Refusal.TheVariants.{Empty, High, Disorder, Taken}
use Rattle.interval.specs.declared.stretches.Stretch.{Stretch}
use Rattle.interval.specs.Stretches.{rising, ready, stop}
use Rattle.interval.specs.Edits.{free, cut, paint, ended, started, first_left}
use Rattle.interval.specs.Calls.{checked, fitted, held, replaced, spliced, put_goal, cut_goal, paint_goal}
use Rattle.interval.proofs.Cutting.{cut_is}
use Rattle.interval.proofs.Painting.{paint_is}
use Rattle.interval.proofs.Spans.{ended_le, free_is, put_is}

pub record Passed {L : Type 0} (table : List (Stretch L)) (used start size : ℕ) : Type 0 where
  pub some : 0 < size
  pub under : start + size ≤ 2 ^ 40
  pub within : used ≤ length table
  pub order : rising 0 (take used table) ≡ true

passes : (x y z : Bool) → ◌≡◌ {A = Result (Unit {0}) Refusal} (cond x (Err Empty) (cond y (cond z (Ok tt) (Err Disorder)) (Err High))) (Ok tt) → (x ≡ false) × (y ≡ true) × (z ≡ true)
passes x y z e = grind (arith, nat_tests)

pub passed : {L : Type 0} (table : List (Stretch L)) (used start size : ℕ) → checked table used start size ≡ Ok tt → Passed table used start size
passed table used start size ok =
    let p = passes (eqb size 0) (leb (start + size) (2 ^ 40)) (ready table used) ok in
    let q = and_parts (leb used (length table)) _ p.2 in
    record { some = grind (arith, nat_tests); under = leb-true _ _ p.1; within = leb-true _ _ q.0; order = q.1 }

module _ {L : Type 0} (table : List (Stretch L)) (used : ℕ) (s : Stretch L) (from to : ℕ) (is_from : from ≡ ended s.start (take used table)) (is_to : to ≡ started (stop s) (take used table)) (ok : checked table used s.start s.length ≡ Ok tt) where
  pub put_taken : from < to → put_goal table used s ≡ Err Taken
  put_taken h =
      let p = passed table used s.start s.length ok in
      let f : free s.start (stop s) (take used table) ≡ false
      = free_is s.start (stop s) (omega arith) 0 (take used table) p.order ∙ lt-leb _ _ (omega arith) in
      cond-false _ _ _ f

  pub put_goes : to ≤ from → from ≤ to → put_goal table used s ≡ fitted table (spliced table used from to (s ∷ []))
  put_goes h h' =
      let p = passed table used s.start s.length ok in
      let xs = take used table in
      let i = ended s.start xs in
      let f : free s.start (stop s) xs ≡ true
      = free_is s.start (stop s) (omega arith) 0 xs p.order ∙ le-leb _ _ (omega arith) in
      let k = prefix_len-le-length (λ x. leb (stop x) s.start) xs in
      let n = length-take used table in
      let is_from' : ended s.start xs ≡ from = sym is_from in
      let both : ended s.start xs ≡ to = omega arith in
      let front : take i xs ≡ take i table = take-take i used table (omega arith) in
      cond-true _ _ _ f ∙ ap (fitted table) (put_is s 0 xs p.some p.order f ∙ ap (λ z. z ++ (s ∷ drop i xs)) front ∙ (λ k. take (is_from' k) table ++ (s ∷ drop (both k) xs)))

-- the records from i up to j of the live part, and of the table
module _ {X : Type 0} (table : List X) (used i j : ℕ) (order : i ≤ j) (within : j ≤ used) where
  pub live_front : take i (take used table) ≡ take i table
  live_front = take-take i used table (omega arith)

  pub live_part : drop i (take j (take used table)) ≡ part i j table
  live_part = ap (drop i) (take-take j used table within) ∙ sym (between_is table i j)

-- what a replacement comes to, by the places of the records that it takes out
module _ {L : Type 0} (adv : L → ℕ → L) (table : List (Stretch L)) (used a e : ℕ) (forward : a < e) where
  abbrev from : ℕ
  from = ended a (take used table)

  abbrev to : ℕ
  to = started e (take used table)

  order : from ≤ to
  order = ended_le a e forward (take used table)

  within : to ≤ used
  within =
      let h = prefix_len-le-length (λ s. ltb s.start e) (take used table) in
      let k = length-take used table in
      omega arith

  front : take from (take used table) ≡ take from table
  front = live_front table used from to order within

  gone : drop from (take to (take used table)) ≡ held table used a e
  gone = live_part table used from to order within

pub cut_goes : {L : Type 0} (adv : L → ℕ → L) (table : List (Stretch L)) (used start size : ℕ) → checked table used start size ≡ Ok tt
    → cut_goal adv table used start size ≡ fitted table (replaced adv table used start (start + size) None)
cut_goes adv table used start size ok =
    let p = passed table used start size ok in
    let forward : start < start + size = omega (arith, p.some) in
    let xs = take used table in
    let is = cut_is adv start (start + size) forward 0 xs p.order in
    let f = front adv table used start (start + size) forward in
    let h = gone adv table used start (start + size) forward in
    let nil = append-nil (option_to_list (first_left start (held table used start (start + size)))) in
    let same : cut adv start (start + size) xs ≡ replaced adv table used start (start + size) None = cc in
    ap (fitted table) same

pub paint_goes : {L : Type 0} (adv : L → ℕ → L) (table : List (Stretch L)) (used : ℕ) (s : Stretch L) → checked table used s.start s.length ≡ Ok tt
    → paint_goal adv table used s ≡ fitted table (replaced adv table used s.start (stop s) (Some s))
paint_goes adv table used s ok =
    let p = passed table used s.start s.length ok in
    let forward : s.start < stop s = omega (arith, p.some) in
    let xs = take used table in
    let is = paint_is adv 0 xs s p.some p.order in
    let f = front adv table used s.start (stop s) forward in
    let h = gone adv table used s.start (stop s) forward in
    let same : paint adv xs s ≡ replaced adv table used s.start (stop s) (Some s) = cc in
    ap (fitted table) same
