-- The steps of loads and stores.
use Rattle.std.proofs.Common.{◌≡◌, ℕ, zero, suc, ◌+◌, ◌<◌, ◌≤◌, ◌⊎◌, List, [], ◌∷◌, ◌++◌, length, get_or, take, drop, set, Some, sym, refl, ap, ◌∙◌, inl, inr, add-zero, add_assoc, zero-add, arith}
use Rattle.std.specs.List.{slice_get}
use Rattle.std.proofs.lemmas.List.{append_assoc, append-nil, at_drop_more, drop_all, drop_more, get_or-drop, length-drop, length-take, length-take-le, set_at, take_more}
use Rattle.std.proofs.lemmas.Option.{slice_get-get_or, slice_get_within}
use Rattle.std.proofs.lemmas.Bool.{cases_lt}
use Rattle.bank.specs.Alterations.{Alters, AltersRun}
use Rattle.bank.specs.Devices.{Device, masked, wrote}
use Rattle.bank.specs.Transfers.{reach, filled, loaded, Fills, stored}
use Rattle.bank.proofs.Writes.{wrote_past, wrote_alters, length_wrote}

-- a load moves one byte more
pub fill_more : (d : Device) (o i y : ℕ) (out now : List ℕ) → o + i < length d.bytes → i < length out → Some y ≡ slice_get d.bytes (o + i) → now ≡ filled d o i out → set now i y ≡ filled d o (i + 1) out
fill_more d o i y out now h k e inv =
    let xs = drop o d.bytes in
    let long : i < length xs = simp length-drop (omega arith) in
    let front : length (take i xs) ≡ i = length-take-le i xs (omega arith) in
    let at : y ≡ get_or xs i 0 = grind (arith, slice_get-get_or d.bytes (o + i) 0 h, get_or-drop o d.bytes i 0) in
    ap (λ ys. set ys i y) (inv ∙ ap (λ ys. take i xs ++ ys) (drop_more out i 0 k)) ∙ set_at (take i xs) (get_or out i 0) (drop (i + 1) out) y i front ∙ ap (λ z. take i xs ++ (z ∷ drop (i + 1) out)) at ∙ sym (append_assoc (take i xs) (get_or xs i 0 ∷ []) (drop (i + 1) out)) ∙ ap (λ ys. ys ++ drop (i + 1) out) (sym (take_more xs i 0 long))

-- all of the run is filled, and what stands past it in the buffer stays
pub fill_all : (d : Device) (o i k : ℕ) (out run : List ℕ) → length (take k out) ≤ i → i ≤ length (take k out) → k ≡ reach d o (length out) → run ≡ filled d o i (take k out) → run ++ drop k out ≡ loaded d o out
fill_all d o i k out run g h e inv =
    let end : i ≡ k = omega (arith, length-take k out) in
    let none : drop k (take k out) ≡ [] = drop_all k (take k out) (omega arith) in
    let full : run ≡ take k (drop o d.bytes) = inv ∙ ap (λ j. filled d o j (take k out)) end ∙ ap (λ ys. take k (drop o d.bytes) ++ ys) none ∙ append-nil (take k (drop o d.bytes)) in
    ap (λ ys. ys ++ drop k out) full ∙ ap (λ j. filled d o j out) e

nth_drop : (o : ℕ) (xs : List ℕ) (i : ℕ) → slice_get (drop o xs) i ≡ slice_get xs (o + i)
nth_drop zero xs i = rw zero-add
nth_drop (suc o) [] i = refl
nth_drop (suc o) (x ∷ xs) i = let at : suc o + i ≡ suc (o + i) = omega arith in rw at (nth_drop o xs i)

-- a list whose front is another's: up to k it is the other, and then what it was
nth_front : (k : ℕ) (xs ys : List ℕ) (i : ℕ) → i < k → k ≤ length xs → slice_get (take k xs ++ ys) i ≡ slice_get xs i
nth_front zero xs ys i h l = absurd (omega arith)
nth_front (suc k) [] ys i h l = absurd (omega arith)
nth_front (suc k) (x ∷ xs) ys zero h l = refl
nth_front (suc k) (x ∷ xs) ys (suc i) h l = nth_front k xs ys i (omega arith) (omega arith)

nth_back : (k : ℕ) (xs ys : List ℕ) (i : ℕ) → k ≤ i → k ≤ length xs → slice_get (take k xs ++ drop k ys) i ≡ slice_get ys i
nth_back zero xs ys i h l = refl
nth_back (suc k) [] ys i h l = absurd (omega arith)
nth_back (suc k) (x ∷ xs) ys zero h l = absurd (omega arith)
nth_back (suc k) (x ∷ xs) [] (suc i) h l =
    let none : ◌≡◌ {A = List ℕ} (drop k []) [] = drop_all {X = ℕ} k [] (omega arith) in
    rw none at (nth_back k xs [] i (omega arith) (omega arith))
nth_back (suc k) (x ∷ xs) (y ∷ ys) (suc i) h l = nth_back k xs ys i (omega arith) (omega arith)

pub loaded_fills : (d : Device) (o : ℕ) (out now : List ℕ) → now ≡ loaded d o out → Fills d o out now
loaded_fills d o out now e =
    record {
      there = λ i v h f. rw e (low i h (slice_get_within d.bytes (o + i) v f) ∙ f);
      beyond = λ i h. rw e (nth_back (reach d o (length out)) (drop o d.bytes) out i (omega arith) long);
    }
  where
    long : reach d o (length out) ≤ length (drop o d.bytes)
    long = simp length-drop (omega arith)

    low : (i : ℕ) → i < length out → o + i < length d.bytes → slice_get (loaded d o out) i ≡ slice_get d.bytes (o + i)
    low i h k =
        nth_front (reach d o (length out)) (drop o d.bytes) (drop (reach d o (length out)) out) i (omega arith) long ∙ nth_drop o d.bytes i

-- a store writes one byte more
module _ (m m' : ℕ → Device) (n o i : ℕ) (bytes : List ℕ) (h : i < length bytes) (e : m' ≡ wrote m n (o + i) (get_or bytes i 0)) where
  pub store_more : (end : ℕ → Device) → stored m n (o + i) (drop i bytes) ≡ end → stored m' n (o + (i + 1)) (drop (i + 1) bytes) ≡ end
  store_more end inv =
      let step : stored m n (o + i) (drop i bytes) ≡ stored (wrote m n (o + i) (get_or bytes i 0)) n (o + i + 1) (drop (i + 1) bytes) = at_drop_more (stored m n (o + i)) bytes i 0 h in
      rw (e, ← add_assoc o i 1) (sym step ∙ inv)

  pub store_long : (long : ℕ) → length (m n).bytes ≡ long → length (m' n).bytes ≡ long
  store_long long inv = rw e (length_wrote m n (o + i) (get_or bytes i 0) n ∙ inv)

-- writes past the bytes change nothing
stored_past : (m : ℕ → Device) (n o : ℕ) (bs : List ℕ) → length (m n).bytes ≤ o → stored m n o bs ≡ m
stored_past m n o [] h = refl
stored_past m n o (b ∷ bs) h =
    let same = wrote_past m n o b h in
    ap (λ w. stored w n (o + 1) bs) same ∙ stored_past m n (o + 1) bs (omega arith)

-- after a whole run, nothing is left to do
pub store_all : (m : ℕ → Device) (n o i : ℕ) (bs : List ℕ) → i ≡ reach (m n) o (length bs) → stored m n (o + i) (drop i bs) ≡ m
store_all m n o i bs e = go (cases_lt i (length bs))
  where
    go : (i < length bs) ⊎ (length bs ≤ i) → stored m n (o + i) (drop i bs) ≡ m
    go (inl h) = stored_past m n (o + i) (drop i bs) (omega arith)
    go (inr h) = ap (stored m n (o + i)) (drop_all i bs h)

-- one write, and then a run of them from the next offset on
module _ (m m' end : ℕ → Device) (n o b : ℕ) (bs : List ℕ) (one : Alters m m' n o b) (rest : AltersRun m' end n (o + 1) bs) where
  there_more : (i c v k : ℕ) → slice_get (b ∷ bs) i ≡ Some c → slice_get (m n).bytes (o + i) ≡ Some v → slice_get (m n).masks (o + i) ≡ Some k → slice_get (end n).bytes (o + i) ≡ Some (masked v k c)
  there_more zero c v k e f g =
      let f' : slice_get (m n).bytes o ≡ Some v = rw add-zero at f in
      let g' : slice_get (m n).masks o ≡ Some k = rw add-zero at g in
      let same : b ≡ c = cc in
      rw (add-zero o) (rest.elsewhere n o (λ _ low _. omega arith) ∙ one.there v k f' g' ∙ ap (λ x. Some (masked v k x)) same)
  there_more (suc i) c v k e f g =
      let at : o + suc i ≡ o + 1 + i = omega arith in
      let f' : slice_get (m n).bytes (o + 1 + i) ≡ Some v = rw at at f in
      let g' : slice_get (m n).masks (o + 1 + i) ≡ Some k = rw at at g in
      rw at (rest.there i c v k e (one.elsewhere n (o + 1 + i) (λ _ same. omega arith) ∙ f') (ap (λ ks. slice_get ks (o + 1 + i)) (one.shape.masks n) ∙ g'))

  run_more : AltersRun m end n o (b ∷ bs)
  run_more =
      record {
        there = there_more;
        elsewhere =
            λ q p h. rest.elsewhere q p (λ e lo hi. h e (omega arith) (omega arith)) ∙ one.elsewhere q p (λ e f. h e (omega arith) (omega arith));
        shape =
            record {
              kinds = λ q. rest.shape.kinds q ∙ one.shape.kinds q;
              lengths = λ q. rest.shape.lengths q ∙ one.shape.lengths q;
              masks = λ q. rest.shape.masks q ∙ one.shape.masks q;
            };
      }

stored_alters : (bs : List ℕ) (m : ℕ → Device) (n o : ℕ) → AltersRun m (stored m n o bs) n o bs
stored_alters [] m n o =
    record {
      there = λ i b v k e. absurd (omega (arith, slice_get_within [] i b e));
      elsewhere = λ q p h. refl;
      shape = record { kinds = λ q. refl; lengths = λ q. refl; masks = λ q. refl };
    }
stored_alters (b ∷ bs) m n o =
    run_more m (wrote m n o b) (stored (wrote m n o b) n (o + 1) bs) n o b bs (wrote_alters m n o b) (stored_alters bs (wrote m n o b) n (o + 1))

pub store_alters : (m m' : ℕ → Device) (n o : ℕ) (bs : List ℕ) → m' ≡ stored m n o bs → AltersRun m m' n o bs
store_alters m m' n o bs e = rw e (stored_alters bs m n o)
