-- One walk along two rising lists.
use Rattle.std.proofs.Common.{◌≡◌, ℕ, ◌≤◌, Bool, true, false, cond, not, List, [], ◌∷◌, drop, refl, ap, ◌∙◌, sym, subst, inl, inr, arith}
use Rattle.std.proofs.lemmas.Bool.{cond-true, cond-false, lt-ltb, le-ltb, cases_lt}
use Rattle.interval.specs.Edits.{started}
use Rattle.interval.specs.Stretches.{rising, stop}
use Rattle.interval.proofs.Spans.{rises, drop_front}
use Rattle.model.specs.Ranges.{Range, same_range, listed}
use Rattle.diff.specs.ChangeLists.{missing}
use Rattle.interval.proofs.Orders.{rising_down}
use Rattle.diff.specs.Merge.{begins}
use Rattle.diff.proofs.Members.{differ, low_unlisted, or_nothing, or_skip}

-- the ranges that start below an address are none that starts there or above
skipped : (a : ℕ) (ys : List Range) (r : Range) → a ≤ r.start → listed ys r ≡ listed (drop (started a ys) ys) r
skipped a [] r h = refl
skipped a (y ∷ ys) r h =
    elim (cases_lt y.start a) [
      | inl below ↦ or_skip _ _ (differ y r (λ e. let s = ap (λ z. z.start) e in absurd (omega arith))) ∙ skipped a ys r h
          ∙ sym (ap (λ n. listed (drop n (y ∷ ys)) r) (cond-true _ _ _ (lt-ltb _ _ below)) ∙ ap (λ l. listed l r) (drop_front y ys (started a ys)))
      | inr from ↦ sym (ap (λ n. listed (drop n (y ∷ ys)) r) (cond-false _ _ _ (le-ltb _ _ from)))
    ]

-- so a list that rises from the address on lacks the same ranges without them
pub passed : (a low : ℕ) (xs ys : List Range) → rising low xs ≡ true → a ≤ low → missing xs ys ≡ missing xs (drop (started a ys) ys)
passed a low [] ys up le = refl
passed a low (x ∷ xs) ys up le =
    let p = rises low x xs up in
    let here = skipped a ys x (omega (arith, p.above)) in
    let rest = passed a (stop x) xs ys p.rest (omega (arith, p.above)) in
    λ i. cond (not (here i)) (x ∷ rest i) (rest i)

-- behind them, a rising list has the range only in front
in_front : (r : Range) (low : ℕ) (ys : List Range) → rising low ys ≡ true → listed (drop (started r.start ys) ys) r ≡ begins (drop (started r.start ys) ys) r
in_front r low [] up = refl
in_front r low (y ∷ ys) up =
    let p = rises low y ys up in
    let At : ℕ → Type 0 = λ n. listed (drop n (y ∷ ys)) r ≡ begins (drop n (y ∷ ys)) r in
    elim (cases_lt y.start r.start) [
      | inl below ↦ subst At (sym (cond-true _ _ _ (lt-ltb _ _ below)))
          (ap (λ l. listed l r) (drop_front y ys _) ∙ in_front r (stop y) ys p.rest ∙ sym (ap (λ l. begins l r) (drop_front y ys _)))
      | inr from ↦ subst At (sym (cond-false _ _ _ (le-ltb _ _ from))) (or_nothing (same_range y r) _ (low_unlisted (stop y) ys r p.rest (omega (arith, p.some))))
    ]

pub tail_rises : (all : List Range) (x : Range) (xs : List Range) → all ≡ x ∷ xs → rising 0 all ≡ true → rising 0 xs ≡ true
tail_rises all x xs is up = let p = rises 0 x xs (subst (λ l. rising 0 l ≡ true) is up) in rising_down (stop x) 0 xs (omega arith) p.rest

-- a turn of the walk: the first range is missing where the others, from its start on, do not begin with it
module _ (all : List Range) (x : Range) (xs ys others : List Range) (is : all ≡ x ∷ xs) (up : rising 0 all ≡ true) (up' : rising 0 ys ≡ true) (on : others ≡ drop (started x.start ys) ys) where
  turn : (b : Bool) → begins others x ≡ b → missing all ys ≡ cond (not b) (x ∷ missing xs others) (missing xs others)
  turn b e =
      let p = rises 0 x xs (subst (λ l. rising 0 l ≡ true) is up) in
      let same : listed ys x ≡ b = skipped x.start ys x (omega arith) ∙ in_front x 0 ys up' ∙ sym (ap (λ l. begins l x) on) ∙ e in
      let rest : missing xs ys ≡ missing xs others = passed x.start (stop x) xs ys p.rest (omega arith) ∙ sym (ap (missing xs) on) in
      ap (λ l. missing l ys) is ∙ (λ i. cond (not (same i)) (x ∷ rest i) (rest i))

  pub turn_gives : begins others x ≡ false → missing all ys ≡ x ∷ missing xs others
  turn_gives e = turn false e

  pub turn_passes : begins others x ≡ true → missing all ys ≡ missing xs others
  turn_passes e = turn true e
