-- Laws of writes to devices.
use Rattle.std.proofs.Common.{◌≡◌, ℕ, zero, suc, ◌<◌, ◌≤◌, Bool, true, false, cond, eqb, ◌≢◌, List, [], ◌∷◌, length, get_or, set, Some, sym, refl, ap, ◌∙◌}
use mathlib.Core.Path.{fun_ext}
use Rattle.std.specs.List.{slice_get}
use Rattle.std.proofs.lemmas.List.{set_past, set_comm, length-set, get_or-set_same, get_or-set_other}
use Rattle.std.proofs.lemmas.Option.{slice_get-get_or, slice_get_within, get_or_from_slice_get}
use Rattle.std.proofs.lemmas.Bool.{eqb-true, eq-eqb, cond-true}
use Rattle.bank.specs.Alterations.{Apart, ShapeKept, Alters}
use Rattle.bank.specs.Devices.{Device, masked, put, wrote}

put_past : (d : Device) (o b : ℕ) → length d.bytes ≤ o → put d o b ≡ d
put_past d o b h =
    ap (λ (xs : List ℕ). record { kind = d.kind; bytes = xs; masks = d.masks }) (set_past d.bytes o _ h)

-- a refused write changes nothing
pub wrote_past : (m : ℕ → Device) (n o b : ℕ) → length (m n).bytes ≤ o → wrote m n o b ≡ m
wrote_past m n o b h = fun_ext (λ q. go q (eqb q n) refl)
  where
    go : (q : ℕ) (t : Bool) → eqb q n ≡ t → cond t (put (m q) o b) (m q) ≡ m q
    go q true e = put_past (m q) o b (rw (eqb-true q n e) h)
    go q false e = refl

nth_set_other : (xs : List ℕ) (i j y : ℕ) → j ≢ i → slice_get (set xs i y) j ≡ slice_get xs j
nth_set_other [] i j y h = refl
nth_set_other (x ∷ xs) zero zero y h = absurd (h refl)
nth_set_other (x ∷ xs) zero (suc j) y h = refl
nth_set_other (x ∷ xs) (suc i) zero y h = refl
nth_set_other (x ∷ xs) (suc i) (suc j) y h = nth_set_other xs i j y (λ e. h (ap suc e))

module _ (m : ℕ → Device) (n o b : ℕ) where
  wrote_here : wrote m n o b n ≡ put (m n) o b
  wrote_here = cond-true (eqb n n) _ _ (eq-eqb n n refl)

  wrote_there : (v k : ℕ) → slice_get (m n).bytes o ≡ Some v → slice_get (m n).masks o ≡ Some k → slice_get (wrote m n o b n).bytes o ≡ Some (masked v k b)
  wrote_there v k e f =
      let at = slice_get_within (m n).bytes o v e in
      let old = get_or_from_slice_get (m n).bytes o v 0 e in
      let under = get_or_from_slice_get (m n).masks o k 0 f in
      let y = masked (get_or (m n).bytes o 0) (get_or (m n).masks o 0) b in
      let new : o < length (set (m n).bytes o y) = simp length-set at in
      ap (λ d. slice_get d.bytes o) wrote_here ∙ slice_get-get_or (set (m n).bytes o y) o 0 new ∙ ap Some (get_or-set_same (m n).bytes o y 0 at ∙ cc)

  wrote_elsewhere : (q p : ℕ) → Apart n o q p → slice_get (wrote m n o b q).bytes p ≡ slice_get (m q).bytes p
  wrote_elsewhere q p h = go (eqb q n) refl
    where
      go : (t : Bool) → eqb q n ≡ t → slice_get (cond t (put (m q) o b) (m q)).bytes p ≡ slice_get (m q).bytes p
      go true e = nth_set_other (m q).bytes o p _ (λ f. h (sym (eqb-true q n e)) (sym f))
      go false e = refl

  -- a write keeps every length
  pub length_wrote : (q : ℕ) → length (wrote m n o b q).bytes ≡ length (m q).bytes
  length_wrote q =
      elim (eqb q n) as (λ t. length (cond t (put (m q) o b) (m q)).bytes ≡ length (m q).bytes) [ true ↦ length-set (m q).bytes o _ | false ↦ refl ]

  wrote_shape : ShapeKept m (wrote m n o b)
  wrote_shape =
      record {
        kinds =
            λ q. elim (eqb q n) as (λ t. (cond t (put (m q) o b) (m q)).kind ≡ (m q).kind) [ true ↦ refl | false ↦ refl ];
        lengths = length_wrote;
        masks =
            λ q. elim (eqb q n) as (λ t. (cond t (put (m q) o b) (m q)).masks ≡ (m q).masks) [ true ↦ refl | false ↦ refl ];
      }

  pub wrote_alters : Alters m (wrote m n o b) n o b
  wrote_alters = record { there = wrote_there; elsewhere = wrote_elsewhere; shape = wrote_shape }

  -- every bank's `alters` from its `after`
  pub altered : (m' : ℕ → Device) → m' ≡ wrote m n o b → Alters m m' n o b
  altered m' e = rw e wrote_alters

-- two writes to one device at two offsets commute
put_comm : (d : Device) (o b p c : ℕ) → o ≢ p → put (put d o b) p c ≡ put (put d p c) o b
put_comm d o b p c h =
    let x = masked (get_or d.bytes o 0) (get_or d.masks o 0) b in
    let y = masked (get_or d.bytes p 0) (get_or d.masks p 0) c in
    let back : p ≢ o = λ e. h (sym e) in
    let at_p : get_or (set d.bytes o x) p 0 ≡ get_or d.bytes p 0 = get_or-set_other d.bytes o p x 0 back in
    let at-o : get_or (set d.bytes p y) o 0 ≡ get_or d.bytes o 0 = get_or-set_other d.bytes p o y 0 h in
    let lists : set (set d.bytes o x) p (masked (get_or (set d.bytes o x) p 0) (get_or d.masks p 0) c) ≡ set (set d.bytes p y) o (masked (get_or (set d.bytes p y) o 0) (get_or d.masks o 0) b) = rw (at_p, at-o) (set_comm d.bytes o p x y h) in
    ap (λ (xs : List ℕ). record { kind = d.kind; bytes = xs; masks = d.masks }) lists

-- two writes to two bytes commute
pub wrote_comm : (m : ℕ → Device) (n o b q p c : ℕ) → Apart n o q p → wrote (wrote m n o b) q p c ≡ wrote (wrote m q p c) n o b
wrote_comm m n o b q p c h = fun_ext (λ x. go x (eqb x q) (eqb x n) refl refl)
  where
    go : (x : ℕ) (s t : Bool) → eqb x q ≡ s → eqb x n ≡ t → cond s (put (cond t (put (m x) o b) (m x)) p c) (cond t (put (m x) o b) (m x)) ≡ cond t (put (cond s (put (m x) p c) (m x)) o b) (cond s (put (m x) p c) (m x))
    go x true true e f = put_comm (m x) o b p c (h (sym (eqb-true x n f) ∙ eqb-true x q e))
    go x true false e f = refl
    go x false true e f = refl
    go x false false e f = refl
