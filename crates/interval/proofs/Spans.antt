-- In a rising list, the stretches that meet a span of addresses stand together: where they are, and what an edit makes of them.
use Rattle.std.proofs.Common.{◌≡◌, ℕ, ◌+◌, ◌^◌, ◌<◌, ◌≤◌, true, false, ◌&&◌, ltb, leb, List, [], ◌∷◌, ◌++◌, take, drop, sym, refl, ap, ◌∙◌, inl, inr, one-add, arith}
use Rattle.std.proofs.lemmas.Bool.{and_parts, and_from, or_right, leb-true, ltb-true, le-leb, lt-leb, lt-ltb, cond-true, cond-false, cases_lt}
use Rattle.std.proofs.lemmas.Bool.Decides.{nat_tests}
use Rattle.interval.specs.declared.stretches.Stretch.{Stretch}
use Rattle.interval.specs.Stretches.{rising, stop}
use Rattle.interval.specs.Edits.{apart, free, ended, started, put}

-- what the order says of the first stretch and the rest
pub record Rises {L : Type 0} (low : ℕ) (x : Stretch L) (xs : List (Stretch L)) : Type 0 where
  pub above : low ≤ x.start
  pub some : 0 < x.length
  pub under : stop x ≤ 2 ^ 40
  pub rest : rising (stop x) xs ≡ true

pub rises : {L : Type 0} (low : ℕ) (x : Stretch L) (xs : List (Stretch L)) → rising low (x ∷ xs) ≡ true → Rises low x xs
rises low x xs r =
    let p = and_parts (leb low x.start) _ r in
    let q = and_parts (ltb 0 x.length && leb (stop x) (2 ^ 40)) _ p.1 in
    let s = and_parts (ltb 0 x.length) _ q.0 in
    record { above = leb-true _ _ p.0; some = ltb-true _ _ s.0; under = leb-true _ _ s.1; rest = q.1 }

module _ {L : Type 0} (a e : ℕ) (forward : a < e) where
  pub ended_le : (xs : List (Stretch L)) → ended a xs ≤ started e xs
  ended_le [] = omega arith
  ended_le (x ∷ xs) = let ih = ended_le xs in grind (arith, nat_tests)

  pub free_above : (low : ℕ) (xs : List (Stretch L)) → e ≤ low → rising low xs ≡ true → free a e xs ≡ true
  free_above low [] h r = refl
  free_above low (x ∷ xs) h r =
      let p = rises low x xs r in
      and_from (apart a e x) _ (or_right (leb (stop x) a) _ (le-leb e x.start (omega arith))) (free_above (stop x) xs (omega arith) p.rest)

  pub free_is : (low : ℕ) (xs : List (Stretch L)) → rising low xs ≡ true → free a e xs ≡ leb (started e xs) (ended a xs)
  free_is low [] r = refl
  free_is low (x ∷ xs) r =
      let p = rises low x xs r in
      let ih = free_is (stop x) xs p.rest in
      let k = free_above (stop x) xs in
      grind (arith, nat_tests)

-- an element that stays in front
module _ {X : Type 0} (x : X) (xs : List X) where
  pub take_front : (n : ℕ) → take (1 + n) (x ∷ xs) ≡ x ∷ take n xs
  take_front n = rw one-add

  pub drop_front : (n : ℕ) → drop (1 + n) (x ∷ xs) ≡ drop n xs
  drop_front n = rw one-add

-- a free stretch is put behind those that end before it
pub put_is : {L : Type 0} (s : Stretch L) (low : ℕ) (xs : List (Stretch L)) → 0 < s.length → rising low xs ≡ true → free s.start (stop s) xs ≡ true
    → put xs s ≡ take (ended s.start xs) xs ++ (s ∷ drop (ended s.start xs) xs)
put_is s low [] h r f = refl
put_is s low (x ∷ xs) h r f =
    let p = rises low x xs r in
    let q = and_parts (apart s.start (stop s) x) _ f in
    let n = ended s.start xs in
    elim (cases_lt s.start (stop x)) [
      | inl over ↦ (let later : ltb x.start s.start ≡ false = grind (arith, nat_tests) in
          cond-false _ _ _ later ∙ sym (ap (λ k. take k (x ∷ xs) ++ (s ∷ drop k (x ∷ xs))) (cond-false _ _ _ (lt-leb _ _ over))))
      | inr under ↦ (let earlier : x.start < s.start = omega arith in
          cond-true _ _ _ (lt-ltb _ _ earlier) ∙ ap (λ ys. x ∷ ys) (put_is s (stop x) xs h p.rest q.1)
          ∙ sym (ap (λ k. take k (x ∷ xs) ++ (s ∷ drop k (x ∷ xs))) (cond-true _ _ _ (le-leb _ _ under)) ∙ rw (take_front x xs n, drop_front x xs n)))
    ]
