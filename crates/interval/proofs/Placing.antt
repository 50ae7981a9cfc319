-- What a splice leaves in the table.
use Rattle.std.proofs.Common.{◌≡◌, ℕ, ◌+◌, ◌-◌, ◌<◌, ◌≤◌, List, [], ◌∷◌, ◌++◌, length, take, drop, set, Some, Option, sym, refl, ap, ◌∙◌, append_assoc, add-one, arith, length-append, length-drop, length-take}
use lib.Seq.{paste}
use Rattle.std.proofs.lemmas.List.{set_split, take-append-le, take_all, drop_at, take-take, length-take-le}
use Rattle.std.proofs.lemmas.List.Edits.{paste-paste}
use Rattle.std.specs.Option.{option_to_list}
use Rattle.std.proofs.lemmas.Slice.{between_is}
use Rattle.interval.specs.Calls.{spliced}

module _ {X : Type 0} where
  pub paste_one : (xs : List X) (i : ℕ) (x : X) → i < length xs → set xs i x ≡ paste xs i (x ∷ []) 1
  paste_one xs i x h = set_split xs i x h ∙ simp (append_assoc, add-one)

  -- the records from `to` on are moved, and the pieces are written before them
  module _ (xs ps : List X) (used from to : ℕ) (a : from ≤ to) (b : to ≤ used) (c : used ≤ length xs) where
    pub length_spliced : length (spliced xs used from to ps) ≡ from + length ps + (used - to)
    length_spliced = simp (length-append, length-take, length-drop) (omega arith)

    pub spliced_is : from + length ps + (used - to) ≤ length xs → paste (paste xs (from + length ps) (drop to xs) (used - to)) from ps (length ps) ≡ spliced xs used from to ps ++ drop (length (spliced xs used from to ps)) xs
    spliced_is d =
        let h = from + length ps in
        let m = take (used - to) (drop to xs) in
        let r = drop (h + (used - to)) xs in
        let inner : paste xs h (drop to xs) (used - to) ≡ take h xs ++ (m ++ r) = append_assoc (take h xs) m r in
        let long : length (take h xs) ≡ h = length-take-le h xs (omega arith) in
        let front : take from (take h xs ++ (m ++ r)) ≡ take from xs = take-append-le from (take h xs) (m ++ r) (omega arith) ∙ take-take from h xs (omega arith) in
        let back : drop h (take h xs ++ (m ++ r)) ≡ m ++ r = drop_at (take h xs) (m ++ r) h long in
        let whole : take (length ps) ps ≡ ps = take_all (length ps) ps (omega arith) in
        let moved : m ≡ drop to (take used xs) = between_is xs to used in
        let count = length_spliced in
        let shift : take from xs ++ ps ++ (m ++ r) ≡ take from xs ++ (ps ++ m) ++ r = simp append_assoc in
        ap (λ t. take from t ++ take (length ps) ps ++ drop h t) inner
        ∙ ap (λ t. t ++ take (length ps) ps ++ drop h (take h xs ++ (m ++ r))) front
        ∙ ap (λ t. take from xs ++ t ++ drop h (take h xs ++ (m ++ r))) whole
        ∙ ap (λ t. take from xs ++ ps ++ t) back
        ∙ shift
        ∙ ap (λ t. take from xs ++ (ps ++ t) ++ r) moved
        ∙ ap (λ t. spliced xs used from to ps ++ drop t xs) (sym count)

  pub paste_piece : (xs : List X) (i : ℕ) (o : Option X) (x : X) → o ≡ Some x → i + length (option_to_list o) ≤ length xs → set xs i x ≡ paste xs i (option_to_list o) (length (option_to_list o))
  paste_piece xs i o x e h = rw e (paste_one xs i x (omega (arith, rw e at h)))

  -- three pastes, one after the other
  pub paste_three : (xs l m r t2 t3 t4 : List X) (from i j : ℕ) → from ≤ length xs → t2 ≡ paste xs from l (length l) → i ≡ from + length l → t3 ≡ paste t2 i m (length m) → j ≡ i + length m → t4 ≡ paste t3 j r (length r)
      → t4 ≡ paste xs from (l ++ m ++ r) (length (l ++ m ++ r))
  paste_three xs l m r t2 t3 t4 from i j w p q s t z =
      let two : t3 ≡ paste xs from (l ++ m) (length l + length m) = s ∙ rw (p, q) (paste-paste xs from l m (length l) (length m) refl refl w) in
      let three : paste (paste xs from (l ++ m) (length l + length m)) (from + (length l + length m)) r (length r) ≡ paste xs from (l ++ m ++ r) (length l + length m + length r)
      = paste-paste xs from (l ++ m) r (length l + length m) (length r) (sym (length-append l m)) refl w in
      let place : j ≡ from + (length l + length m) = omega arith in
      z ∙ ap (λ k. paste t3 k r (length r)) place ∙ ap (λ k. paste k (from + (length l + length m)) r (length r)) two ∙ three
      ∙ ap (λ k. paste xs from (l ++ m ++ r) k) (sym (length-append (l ++ m) r ∙ ap (λ k. k + length r) (length-append l m)))

  pub length_three : (l m r : List X) → length (l ++ m ++ r) ≡ length l + length m + length r
  length_three l m r = length-append (l ++ m) r ∙ ap (λ k. k + length r) (length-append l m)
