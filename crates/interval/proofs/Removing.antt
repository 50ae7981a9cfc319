-- Taking a record out of a table.
use Rattle.std.proofs.Common.{◌≡◌, ℕ, ◌+◌, ◌-◌, ◌<◌, ◌≤◌, true, List, [], ◌∷◌, ◌++◌, length, take, drop, zero, suc, sym, refl, ap, ◌∙◌, arith, length-drop}
use lib.Seq.{paste}
use Rattle.std.proofs.lemmas.List.{take-take, drop-take}
use Rattle.std.proofs.lemmas.List.Edits.{take-paste}
use Rattle.interval.specs.declared.stretches.Stretch.{Stretch}
use Rattle.interval.specs.Stretches.{rising, stop}
use Rattle.interval.proofs.Spans.{rises}
use Rattle.interval.proofs.Orders.{rising_from, rising_down}

rising_past : {L : Type 0} (i low : ℕ) (xs : List (Stretch L)) → rising low xs ≡ true → rising low (take i xs ++ drop (suc i) xs) ≡ true
rising_past zero low [] h = refl
rising_past (suc i) low [] h = refl
rising_past zero low (x ∷ xs) h = let p = rises low x xs h in rising_down (stop x) low xs (omega (arith, p.above)) p.rest
rising_past (suc i) low (x ∷ xs) h =
    let p = rises low x xs h in
    rising_from low x (take i xs ++ drop (suc i) xs) p.above p.some p.under (rising_past i (stop x) xs p.rest)

pub rising_out : {L : Type 0} (i low : ℕ) (xs : List (Stretch L)) → rising low xs ≡ true → rising low (take i xs ++ drop (i + 1) xs) ≡ true
rising_out i low xs h =
    let e : i + 1 ≡ suc i = omega arith in
    ap (λ n. rising low (take i xs ++ drop n xs)) e ∙ rising_past i low xs h

-- the records behind one moved over it
pub taken_out : {X : Type 0} (t : List X) (used at : ℕ) → at < used → used ≤ length t → take (used - 1) (paste t at (drop (at + 1) t) (used - (at + 1))) ≡ take at (take used t) ++ drop (at + 1) (take used t)
taken_out t used at h k =
    let n : ℕ = used - (at + 1) in
    let e : used - 1 ≡ at + n = omega arith in
    let f : at + 1 + n ≡ used = omega arith in
    let m : n ≤ length (drop (at + 1) t) = simp length-drop (omega arith) in
    ap (λ i. take i (paste t at (drop (at + 1) t) n)) e
    ∙ take-paste t at (drop (at + 1) t) n (omega arith) m
    ∙ (λ i. sym (take-take at used t (omega arith)) i ++ (sym (drop-take (at + 1) n t) ∙ ap (λ j. drop (at + 1) (take j t)) f) i)
