-- What stands in the table after each edit.
use Rattle.std.proofs.Common.{◌≡◌, ℕ, suc, ◌+◌, ◌<◌, ◌≤◌, Bool, true, false, leb, List, [], ◌∷◌, ◌++◌, length, take, drop, Ok, Err, Decides, Option, Result, sym, refl, ap, ◌∙◌, subst, inl, inr, arith, length-append, length-take}
use Rattle.std.proofs.lemmas.List.{take_at, drop_at}
use Rattle.std.proofs.lemmas.Bool.{and_parts, and_from, le-leb, leb-true, cond-true, cond-false, cond_both, cases_Bool}
use Rattle.interval.specs.declared.refusals.Refusal.{Refusal}
use Rattle.interval.specs.declared.refusals.Refusal.TheVariants.{Empty, High, Disorder, Taken, Short}
use Rattle.interval.specs.declared.stretches.Stretch.{Stretch}
use Rattle.interval.specs.Calls.{checked, fitted, counted, written, put_goal, cut_goal, paint_goal}
use Rattle.interval.specs.Edits.{free, put, cut, paint, runs_on, merged, join_from, join}
use Rattle.interval.specs.Laws.{Stands, Edited, Laid, WasFree, CutOut, Settled, Maximal, HoldsMaximal}
use Rattle.interval.specs.Stretches.{rising, ready, stop, at}
use Rattle.interval.proofs.Answered.{passed}
use Rattle.interval.proofs.AtLaws.{at_put, at_cut, at_paint, at_join, at_free, at_taken, free_cut}
use Rattle.interval.proofs.Only.{only}
use Rattle.interval.proofs.Orders.{rising_put, rising_cut, rising_join, settled_join}

module _ {L : Type 0} (adv : L → ℕ → L) (shows : ℕ → Option L) (table : List (Stretch L)) where
  -- a list that is written into the front of the table
  pub stands : (ys now : List (Stretch L)) (n : ℕ) → length ys ≤ length table → rising 0 ys ≡ true → ((a : ℕ) → at adv ys a ≡ shows a) → n ≡ length ys → now ≡ ys ++ drop n table → Stands adv shows table now n
  stands ys now n fits order labels count after =
      let front : take n now ≡ ys = ap (take n) after ∙ take_at ys (drop n table) n (sym count) in
      let long : length now ≡ length ys + length (drop n table) = ap length after ∙ length-append ys (drop n table) in
      record {
        order = and_from _ _ (le-leb n (length now) (omega arith)) (ap (rising 0) front ∙ order);
        labels = λ a. ap (λ z. at adv z a) front ∙ labels a;
        past = ap (drop n) after ∙ drop_at ys (drop n table) n (sym count);
      }

  edited : (res : Result (List (Stretch L)) Refusal) (now : List (Stretch L)) (r : Result ℕ Refusal)
      → ((ys : List (Stretch L)) → res ≡ Ok ys → (length ys ≤ length table) × (rising 0 ys ≡ true) × ((a : ℕ) → at adv ys a ≡ shows a))
      → r ≡ counted res → now ≡ written table res → Edited adv shows table now r
  edited (Ok ys) now r good p q = let g = good ys refl in rw (p, q) (stands ys (ys ++ drop (length ys) table) (length ys) g.0 g.1 g.2 refl refl)
  edited (Err e) now r good p q = rw (p, q) refl

module _ {X : Type 0} where
  ok_same : (r : Result (List X) Refusal) (xs ys : List X) → r ≡ Ok xs → r ≡ Ok ys → xs ≡ ys
  ok_same r xs ys p q = cc

  ok_err : (r : Result (List X) Refusal) (e : Refusal) (ys : List X) → r ≡ Err e → r ≡ Ok ys → ⊥
  ok_err r e ys p q = let z : ◌≡◌ {A = ℕ} 0 1 = cc in omega arith

module _ {L : Type 0} (table : List (Stretch L)) where
  fitted_ok : (xs ys : List (Stretch L)) → fitted table xs ≡ Ok ys → (xs ≡ ys) × (length xs ≤ length table)
  fitted_ok xs ys e = elim (cases_Bool (leb (length xs) (length table))) [
    | inl t ↦ (ok_same (fitted table xs) xs ys (cond-true _ _ _ t) e, leb-true _ _ t)
    | inr f ↦ absurd (ok_err (fitted table xs) Short ys (cond-false _ _ _ f) e)
  ]

  put_ok : (used : ℕ) (s : Stretch L) (ys : List (Stretch L)) → put_goal table used s ≡ Ok ys → (free s.start (stop s) (take used table) ≡ true) × (fitted table (put (take used table) s) ≡ Ok ys)
  put_ok used s ys e = elim (cases_Bool (free s.start (stop s) (take used table))) [
    | inl t ↦ (t, sym (cond-true _ _ _ t) ∙ e)
    | inr f ↦ absurd (ok_err (put_goal table used s) Taken ys (cond-false _ _ _ f) e)
  ]

  put_not_free : (used : ℕ) (s : Stretch L) → put_goal table used s ≡ Err Taken → free s.start (stop s) (take used table) ≡ false
  put_not_free used s e = elim (cases_Bool (free s.start (stop s) (take used table))) [
    | inl t ↦ absurd (fitted_taken (put (take used table) s) (sym (cond-true _ _ _ t) ∙ e))
    | inr f ↦ f
  ]
    where
      two_errs : (o : Result (List (Stretch L)) Refusal) → o ≡ Err Short → o ≡ Err Taken → ⊥
      two_errs o p q = let z : ◌≡◌ {A = ℕ} 0 1 = cc in omega arith

      fitted_taken : (ys : List (Stretch L)) → fitted table ys ≡ Err Taken → ⊥
      fitted_taken ys h = elim (cases_Bool (leb (length ys) (length table))) [
        | inl t ↦ ok_err (fitted table ys) Taken ys h (cond-true _ _ _ t)
        | inr f ↦ two_errs (fitted table ys) (cond-false _ _ _ f) h
      ]

module _ {L : Type 0} (adv : L → ℕ → L) (table now : List (Stretch L)) (used : ℕ) (r : Result ℕ Refusal) where
  pub put_stands : (s : Stretch L) → checked table used s.start s.length ≡ Ok tt → r ≡ counted (put_goal table used s) → now ≡ written table (put_goal table used s) → Laid adv table used s now r
  put_stands s ok =
      let p = passed table used s.start s.length ok in
      let xs = take used table in
      edited adv _ table (put_goal table used s) now r (λ ys e.
      let q = put_ok table used s ys e in
      let f = fitted_ok table (put xs s) ys q.1 in
      (omega (arith, ap length f.0, f.1), ap (rising 0) (sym f.0) ∙ rising_put s 0 xs (omega arith) p.some p.under p.order q.0, λ a. ap (λ z. at adv z a) (sym f.0) ∙ at_put adv a s xs q.0))

  pub put_free : (s : Stretch L) → checked table used s.start s.length ≡ Ok tt → r ≡ counted (put_goal table used s) → WasFree adv table used s r
  put_free s ok c = go (put_goal table used s) refl r c
    where
      go : (res : Result (List (Stretch L)) Refusal) → put_goal table used s ≡ res → (o : Result ℕ Refusal) → o ≡ counted res → WasFree adv table used s o
      go (Ok ys) e o d = rw d (λ a h. at_free adv a s (take used table) (put_ok table used s ys e).0 h)
      go (Err Taken) e o d = let p = passed table used s.start s.length ok in rw d (at_taken adv s 0 (take used table) p.some p.order (put_not_free table used s e))
      go (Err Empty) e o d = rw d tt
      go (Err High) e o d = rw d tt
      go (Err Disorder) e o d = rw d tt
      go (Err Short) e o d = rw d tt

  module _ (sum : (x : L) (i j : ℕ) → adv (adv x i) j ≡ adv x (i + j)) where
    pub cut_stands : (start size : ℕ) → checked table used start size ≡ Ok tt → r ≡ counted (cut_goal adv table used start size) → now ≡ written table (cut_goal adv table used start size) → CutOut adv table used start size now r
    cut_stands start size ok =
        let p = passed table used start size ok in
        let xs = take used table in
        let forward : start < start + size = omega arith in
        edited adv _ table (cut_goal adv table used start size) now r (λ ys e.
        let f = fitted_ok table (cut adv start (start + size) xs) ys e in
        (omega (arith, ap length f.0, f.1), ap (rising 0) (sym f.0) ∙ rising_cut adv start (start + size) 0 xs forward p.order, λ a. ap (λ z. at adv z a) (sym f.0) ∙ at_cut adv a start (start + size) forward sum xs))

    pub paint_stands : (s : Stretch L) → checked table used s.start s.length ≡ Ok tt → r ≡ counted (paint_goal adv table used s) → now ≡ written table (paint_goal adv table used s) → Laid adv table used s now r
    paint_stands s ok =
        let p = passed table used s.start s.length ok in
        let xs = take used table in
        let forward : s.start < stop s = omega arith in
        let gap = free_cut adv s.start s.start (stop s) forward xs in
        edited adv _ table (paint_goal adv table used s) now r (λ ys e.
        let f = fitted_ok table (paint adv xs s) ys e in (
          omega (arith, ap length f.0, f.1),
          ap (rising 0) (sym f.0) ∙ rising_put s 0 (cut adv s.start (stop s) xs) (omega arith) p.some p.under (rising_cut adv s.start (stop s) 0 xs forward p.order) gap,
          λ a. ap (λ z. at adv z a) (sym f.0) ∙ at_paint adv a sum xs s p.some,
        ))

module _ {L : Type 0} (adv : L → ℕ → L) (same : L → L → Bool) where
  length_join_from : (ys : List (Stretch L)) (x : Stretch L) → length (join_from adv same x ys) ≤ suc (length ys)
  length_join_from [] x = omega arith
  length_join_from (y ∷ ys) x =
      let on = length_join_from ys (merged x y) in
      let off = length_join_from ys y in
      cond_both (runs_on adv same x y) _ _ (λ zs. length zs ≤ suc (suc (length ys))) (λ _. omega arith) (λ _. omega arith)

  length_join : (xs : List (Stretch L)) → length (join adv same xs) ≤ length xs
  length_join [] = omega arith
  length_join (x ∷ xs) = length_join_from xs x

  module _ (zero : (x : L) → adv x 0 ≡ x) (sum : (x : L) (i j : ℕ) → adv (adv x i) j ≡ adv x (i + j)) (exact : (x y : L) → Decides (same x y) (x ≡ y)) where
    -- a list that is maximal, written into the front of the table
    pub holds_maximal : (shows : ℕ → Option L) (table ys now : List (Stretch L)) (n : ℕ) → length ys ≤ length table → Maximal adv same shows ys → n ≡ length ys → now ≡ ys ++ drop n table → HoldsMaximal adv same shows table now n
    holds_maximal shows table ys now n fits m count after =
        let front : ys ≡ take n now = sym (ap (take n) after ∙ take_at ys (drop n table) n (sym count)) in
        record {
          stands = stands adv shows table ys now n fits m.order m.labels count after;
          settled = subst (Settled adv same) front m.settled;
          only = λ zs k. only adv zero same exact zs ys 0 k.order k.settled m.order m.settled (λ a. k.labels a ∙ sym (m.labels a)) ∙ front;
        }

    pub join_stands : (table now : List (Stretch L)) (used n : ℕ) → ready table used ≡ true → n ≡ length (join adv same (take used table)) → now ≡ join adv same (take used table) ++ drop n table
        → HoldsMaximal adv same (at adv (take used table)) table now n
    join_stands table now used n ok count after =
        let q = and_parts (leb used (length table)) _ ok in
        let w = leb-true _ _ q.0 in
        let xs = take used table in
        let k = length_join xs in
        let t = length-take used table in
        holds_maximal (at adv xs) table (join adv same xs) now n (omega arith)
        (record { order = rising_join adv same 0 xs q.1; settled = settled_join adv same xs; labels = λ a. at_join adv a sum same exact xs }) count after
