-- What a sweep answers, and what stands in the table then.
use Rattle.std.proofs.Common.{◌≡◌, ℕ, ◌^◌, ◌<◌, ◌≤◌, Bool, List, ◌++◌, length, drop, Option, sym, ap, ◌∙◌, arith}
use Rattle.interval.specs.declared.stretches.Stretch.{Stretch}
use Rattle.interval.specs.Laws.{Maximal, HoldsMaximal}
use Rattle.interval.proofs.Only.{only}
use Rattle.interval.proofs.Standing.{holds_maximal}
use Rattle.sweep.specs.Laws.{below}
use Rattle.sweep.specs.Maps.{stretches}
use Rattle.sweep.proofs.Before.{Labels}
use Rattle.sweep.proofs.Showing.{maximal}

module _ {L : Type 0} (adv : L → ℕ → L) (same : L → L → Bool) (laws : Labels adv same) (f : ℕ → Option L) (size : ℕ) (table : List (Stretch L)) (top : size ≤ 2 ^ 40) where
  abbrev xs : List (Stretch L)
  xs = stretches adv same f 0 size

  module _ (now : List (Stretch L)) (n : ℕ) (room : length xs ≤ length table) (count : n ≡ length xs) (after : now ≡ xs ++ drop n table) where
    pub swept_stands : HoldsMaximal adv same (below size f) table now n
    swept_stands = holds_maximal adv same laws.zero laws.sum laws.exact (below size f) table xs now n room (maximal adv same laws f size top) count after

  module _ (over : length table < length xs) where
    -- whatever maximal list there is, it is this one
    pub refused_for_all : (ys : List (Stretch L)) → Maximal adv same (below size f) ys → length table < length ys
    refused_for_all ys m =
        let k = maximal adv same laws f size top in
        let e = only adv laws.zero same laws.exact ys xs 0 m.order m.settled k.order k.settled (λ a. m.labels a ∙ sym (k.labels a)) in
        omega (arith, ap length e)
