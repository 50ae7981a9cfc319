-- Laws of ranges in slots.
use Rattle.std.specs.Prelude.{◌≡◌, ℕ, zero, suc, ◌^◌, ◌<◌, ◌≤◌, Bool, true, false, cond, ◌||◌, ◌⊎◌, List, [], ◌∷◌, length, replicate, is_some, Some, None, Option, nat_lt, slice_set, refl}
use Rattle.std.proofs.Common.{sym, ap, ◌∙◌, inl, inr, arith}
use Rattle.std.specs.Option.{option_map}
use Rattle.std.proofs.lemmas.Bool.{leb-true, ltb-true, and_parts, and_from, cond-true, cond-false, both_ways, cases_Bool}
use Rattle.interval.specs.Stretches.{stop, lawful, rising}
use Rattle.interval.specs.Edits.{apart, free, put}
use Rattle.model.specs.declared.kinds.Kind.{Kind}
use Rattle.model.specs.Ranges.{Range, same_range, listed, without}
use Rattle.listener.specs.Hearing.{Kept}
use Rattle.listener.specs.Slots.{held_in, lone, slot_in, free_in, table, Seated, Stays}
use Rattle.listener.specs.Rising.{rising_put, length_put, free_put, put_comm, starts_differ, apart_flip}
use Rattle.listener.specs.Sets.{same_true, listed_put, free_unlisted, without_put, without_other, without_gone, free_without}

abbrev Row : Type 0
Row = List (Option Range)

some_suc : (o : Option ℕ) (i : ℕ) → option_map suc o ≡ Some i → (j : ℕ) × (o ≡ Some j) × (i ≡ suc j)
some_suc None i e = absurd (cc)
some_suc (Some k) i e = (k, refl, cc)

zero_is : (i : ℕ) → Some 0 ≡ Some i → i ≡ 0
zero_is i e = cc

-- what is known of the first slot and the rest, where the first has a range
record Lone (x : Range) (s : Row) : Type 0 where
  fit : lawful x.start x.length ≡ true
  some : 0 < x.length
  under : stop x ≤ 2 ^ 40
  clear : free x.start (stop x) (held_in s) ≡ true
  rest : lone s ≡ true

lone_parts : (x : Range) (s : Row) → lone (Some x ∷ s) ≡ true → Lone x s
lone_parts x s a =
    let p = and_parts (lawful x.start x.length) _ a in
    let q = and_parts (free x.start (stop x) (held_in s)) (lone s) p.1 in
    let l = and_parts (nat_lt 0 x.length) _ p.0 in
    record { fit = p.0; some = ltb-true _ _ l.0; under = leb-true _ _ l.1; clear = q.0; rest = q.1 }

lone_from : (x : Range) (s : Row) → lawful x.start x.length ≡ true → free x.start (stop x) (held_in s) ≡ true → lone s ≡ true → lone (Some x ∷ s) ≡ true
lone_from x s l f a = and_from _ _ l (and_from _ _ f a)

lone_rising : (s : Row) → lone s ≡ true → rising 0 (held_in s) ≡ true
lone_rising [] a = refl
lone_rising (None ∷ s) a = lone_rising s a
lone_rising (Some x ∷ s) a =
    let p = lone_parts x s a in
    rising_put x 0 (held_in s) (omega arith) p.some p.under (lone_rising s p.rest) p.clear

few_held : (s : Row) → length (held_in s) ≤ length s
few_held [] = omega arith
few_held (None ∷ s) = omega (arith, few_held s)
few_held (Some x ∷ s) = omega (arith, few_held s, length_put (held_in s) x)

-- all slots are free at first
pub none_held : (n : ℕ) → held_in (replicate n None) ≡ []
none_held zero = refl
none_held (suc n) = none_held n

pub none_lone : (n : ℕ) → lone (replicate n None) ≡ true
none_lone zero = refl
none_lone (suc n) = none_lone n

-- where no slot is free, each has a range
pub full : (s : Row) → free_in s ≡ None → length (held_in s) ≡ length s
full [] f = refl
full (None ∷ s) f = absurd (cc)
full (Some x ∷ s) f = length_put (held_in s) x ∙ ap suc (full s (go (free_in s) f))
  where
    go : (o : Option ℕ) → option_map suc o ≡ None → o ≡ None
    go None e = refl
    go (Some k) e = absurd (cc)

pub free_within : (s : Row) (i : ℕ) → free_in s ≡ Some i → (i < length s) × (length (held_in s) < length s)
free_within [] i f = absurd (cc)
free_within (None ∷ s) i f = (omega (arith, zero_is i f), omega (arith, few_held s))
free_within (Some x ∷ s) i f =
    let v = some_suc (free_in s) i f in
    let w = free_within s v.0 v.1 in
    (omega (arith, v.2, w.0), omega (arith, w.1, length_put (held_in s) x))

-- a range is put into the first free slot
module _ (r : Range) (l : lawful r.start r.length ≡ true) where
  long : 0 < r.length
  long = ltb-true 0 r.length (and_parts (nat_lt 0 r.length) _ l).0

  met : (x : Range) (s : Row) → free r.start (stop r) (held_in (Some x ∷ s)) ≡ true → (apart r.start (stop r) x ≡ true) × (free r.start (stop r) (held_in s) ≡ true)
  met x s m = and_parts (apart r.start (stop r) x) _ (sym (free_put r.start (stop r) (held_in s) x) ∙ m)

  pub put_held : (s : Row) (i : ℕ) → lone s ≡ true → free r.start (stop r) (held_in s) ≡ true → free_in s ≡ Some i → held_in (slice_set s i (Some r)) ≡ put (held_in s) r
  put_held [] i a m f = absurd (cc)
  put_held (None ∷ s) i a m f = ap (λ k. held_in (slice_set (None ∷ s) k (Some r))) (zero_is i f)
  put_held (Some x ∷ s) i a m f =
      let v = some_suc (free_in s) i f in
      let p = lone_parts x s a in
      let o = met x s m in
      ap (λ k. held_in (slice_set (Some x ∷ s) k (Some r))) v.2 ∙ ap (λ t. put t x) (put_held s v.0 p.rest o.1 v.1) ∙ put_comm r x (held_in s) (starts_differ r x long p.some o.0)

  pub put_lone : (s : Row) (i : ℕ) → lone s ≡ true → free r.start (stop r) (held_in s) ≡ true → free_in s ≡ Some i → lone (slice_set s i (Some r)) ≡ true
  put_lone [] i a m f = absurd (cc)
  put_lone (None ∷ s) i a m f = ap (λ k. lone (slice_set (None ∷ s) k (Some r))) (zero_is i f) ∙ lone_from r s l m a
  put_lone (Some x ∷ s) i a m f =
      let v = some_suc (free_in s) i f in
      let p = lone_parts x s a in
      let o = met x s m in
      let clear : free x.start (stop x) (held_in (slice_set s v.0 (Some r))) ≡ true
      = ap (free x.start (stop x)) (put_held s v.0 p.rest o.1 v.1) ∙ free_put x.start (stop x) (held_in s) r ∙ and_from _ _ (apart_flip x r ∙ o.0) p.clear in
      ap (λ k. lone (slice_set (Some x ∷ s) k (Some r))) v.2 ∙ lone_from x (slice_set s v.0 (Some r)) p.fit clear (put_lone s v.0 p.rest o.1 v.1)

  put_slot : (q : Range) (s : Row) (i : ℕ) → same_range r q ≡ false → free_in s ≡ Some i → slot_in (slice_set s i (Some r)) q ≡ slot_in s q
  put_slot q [] i n f = refl
  put_slot q (None ∷ s) i n f = ap (λ k. slot_in (slice_set (None ∷ s) k (Some r)) q) (zero_is i f) ∙ cond-false _ _ _ n
  put_slot q (Some x ∷ s) i n f =
      let v = some_suc (free_in s) i f in
      ap (λ k. slot_in (slice_set (Some x ∷ s) k (Some r)) q) v.2 ∙ ap (λ o. cond (same_range x q) (Some 0) (option_map suc o)) (put_slot q s v.0 n v.1)

  pub put_stays : (s : Row) (i : ℕ) → free r.start (stop r) (held_in s) ≡ true → free_in s ≡ Some i → Stays s (slice_set s i (Some r))
  put_stays s i m f q b _ = go (cases_Bool (same_range r q))
    where
      go : (same_range r q ≡ true) ⊎ (same_range r q ≡ false) → slot_in (slice_set s i (Some r)) q ≡ slot_in s q
      go (inl e) = absurd (both_ways (listed (held_in s) r) (free_unlisted r (held_in s) long m) (ap (listed (held_in s)) (same_true r q e) ∙ b))
      go (inr n) = put_slot q s i n f

pub listed_slot : (r : Range) (s : Row) → is_some (slot_in s r) ≡ listed (held_in s) r
listed_slot r [] = refl
listed_slot r (None ∷ s) = some_mapped (slot_in s r) ∙ listed_slot r s
  where
    some_mapped : (o : Option ℕ) → is_some (option_map suc o) ≡ is_some o
    some_mapped None = refl
    some_mapped (Some k) = refl
listed_slot r (Some x ∷ s) = go (same_range x r) (slot_in s r) ∙ ap (λ t. same_range x r || t) (listed_slot r s) ∙ sym (listed_put r (held_in s) x)
  where
    go : (t : Bool) (o : Option ℕ) → is_some (cond t (Some 0) (option_map suc o)) ≡ (t || is_some o)
    go true o = refl
    go false None = refl
    go false (Some k) = refl

-- how a slot was found
Later : Range → Row → ℕ → Type 0
Later r s i = (j : ℕ) × (slot_in s r ≡ Some j) × (i ≡ suc j)

found_slot : (r x : Range) (s : Row) (i : ℕ) → slot_in (Some x ∷ s) r ≡ Some i → ((same_range x r ≡ true) × (i ≡ 0)) ⊎ ((same_range x r ≡ false) × Later r s i)
unfolding Later
found_slot r x s i f = go (cases_Bool (same_range x r))
  where
    go : (same_range x r ≡ true) ⊎ (same_range x r ≡ false) → ((same_range x r ≡ true) × (i ≡ 0)) ⊎ ((same_range x r ≡ false) × Later r s i)
    go (inl e) = inl (e, zero_is i (sym (cond-true (same_range x r) (Some 0) (option_map suc (slot_in s r)) e) ∙ f))
    go (inr e) = inr (e, some_suc (slot_in s r) i (sym (cond-false (same_range x r) (Some 0) (option_map suc (slot_in s r)) e) ∙ f))

slot_within : (r : Range) (s : Row) (i : ℕ) → slot_in s r ≡ Some i → i < length s
unfolding Later
slot_within r [] i f = absurd (cc)
slot_within r (None ∷ s) i f =
    let v = some_suc (slot_in s r) i f in
    omega (arith, v.2, slot_within r s v.0 v.1)
slot_within r (Some x ∷ s) i f = go (slot_within r s) (found_slot r x s i f)
  where
    go : ((j : ℕ) → slot_in s r ≡ Some j → j < length s) → ((same_range x r ≡ true) × (i ≡ 0)) ⊎ ((same_range x r ≡ false) × Later r s i) → i < suc (length s)
    go ih (inl e) = omega (arith, e.1)
    go ih (inr e) = omega (arith, e.1.2, ih e.1.0 e.1.1)

slot_alone : (r q : Range) (s : Row) (i : ℕ) → slot_in s r ≡ Some i → slot_in s q ≡ Some i → q ≡ r
unfolding Later
slot_alone r q [] i f g = absurd (cc)
slot_alone r q (None ∷ s) i f g =
    let v = some_suc (slot_in s r) i f in
    let w = some_suc (slot_in s q) i g in
    let same : w.0 ≡ v.0 = omega (arith, v.2, w.2) in
    slot_alone r q s v.0 v.1 (w.1 ∙ ap Some same)
slot_alone r q (Some x ∷ s) i f g = go (slot_alone r q s) (found_slot r x s i f) (found_slot q x s i g)
  where
    go : ((j : ℕ) → slot_in s r ≡ Some j → slot_in s q ≡ Some j → q ≡ r) → ((same_range x r ≡ true) × (i ≡ 0)) ⊎ ((same_range x r ≡ false) × Later r s i) → ((same_range x q ≡ true) × (i ≡ 0)) ⊎ ((same_range x q ≡ false) × Later q s i) → q ≡ r
    go ih (inl e) (inl k) = sym (same_true x q k.0) ∙ same_true x r e.0
    go ih (inl e) (inr k) = absurd (omega (arith, e.1, k.1.2))
    go ih (inr e) (inl k) = absurd (omega (arith, e.1.2, k.1))
    go ih (inr e) (inr k) =
        let same : k.1.0 ≡ e.1.0 = omega (arith, e.1.2, k.1.2) in
        ih e.1.0 e.1.1 (k.1.1 ∙ ap Some same)

pub seated : (n : ℕ) (s : Row) (r : Range) → length s ≡ n → Seated n s r
seated n s r e = record { sits = listed_slot r s; within = λ i f. omega (arith, slot_within r s i f); alone = λ q. slot_alone r q s }

-- a range is taken out of its slot
pub clear_held : (r : Range) (s : Row) (i : ℕ) → lone s ≡ true → slot_in s r ≡ Some i → held_in (slice_set s i None) ≡ without (held_in s) r
unfolding Later
clear_held r [] i a f = absurd (cc)
clear_held r (None ∷ s) i a f =
    let v = some_suc (slot_in s r) i f in
    ap (λ k. held_in (slice_set (None ∷ s) k None)) v.2 ∙ clear_held r s v.0 a v.1
clear_held r (Some x ∷ s) i a f = go (lone_parts x s a) (clear_held r s) (found_slot r x s i f)
  where
    go : Lone x s → ((j : ℕ) → lone s ≡ true → slot_in s r ≡ Some j → held_in (slice_set s j None) ≡ without (held_in s) r) → ((same_range x r ≡ true) × (i ≡ 0)) ⊎ ((same_range x r ≡ false) × Later r s i) → held_in (slice_set (Some x ∷ s) i None) ≡ without (put (held_in s) x) r
    go p ih (inl e) = ap (λ k. held_in (slice_set (Some x ∷ s) k None)) e.1 ∙ sym (without_put (held_in s) x (free_unlisted x (held_in s) p.some p.clear)) ∙ ap (without (put (held_in s) x)) (same_true x r e.0)
    go p ih (inr e) = ap (λ k. held_in (slice_set (Some x ∷ s) k None)) e.1.2 ∙ ap (λ t. put t x) (ih e.1.0 p.rest e.1.1) ∙ sym (without_other 0 r x (held_in s) e.0 (lone_rising s p.rest))

pub clear_lone : (r : Range) (s : Row) (i : ℕ) → lone s ≡ true → slot_in s r ≡ Some i → lone (slice_set s i None) ≡ true
unfolding Later
clear_lone r [] i a f = absurd (cc)
clear_lone r (None ∷ s) i a f =
    let v = some_suc (slot_in s r) i f in
    ap (λ k. lone (slice_set (None ∷ s) k None)) v.2 ∙ clear_lone r s v.0 a v.1
clear_lone r (Some x ∷ s) i a f = go (lone_parts x s a) (clear_lone r s) (found_slot r x s i f)
  where
    go : Lone x s → ((j : ℕ) → lone s ≡ true → slot_in s r ≡ Some j → lone (slice_set s j None) ≡ true) → ((same_range x r ≡ true) × (i ≡ 0)) ⊎ ((same_range x r ≡ false) × Later r s i) → lone (slice_set (Some x ∷ s) i None) ≡ true
    go p ih (inl e) = ap (λ k. lone (slice_set (Some x ∷ s) k None)) e.1 ∙ p.rest
    go p ih (inr e) =
        let clear = ap (free x.start (stop x)) (clear_held r s e.1.0 p.rest e.1.1) ∙ free_without x.start (stop x) (held_in s) r p.clear in
        ap (λ k. lone (slice_set (Some x ∷ s) k None)) e.1.2 ∙ lone_from x (slice_set s e.1.0 None) p.fit clear (ih e.1.0 p.rest e.1.1)

clear_slot : (r q : Range) (s : Row) (i : ℕ) → same_range r q ≡ false → slot_in s r ≡ Some i → slot_in (slice_set s i None) q ≡ slot_in s q
unfolding Later
clear_slot r q [] i n f = refl
clear_slot r q (None ∷ s) i n f =
    let v = some_suc (slot_in s r) i f in
    ap (λ k. slot_in (slice_set (None ∷ s) k None) q) v.2 ∙ ap (option_map suc) (clear_slot r q s v.0 n v.1)
clear_slot r q (Some x ∷ s) i n f = go (clear_slot r q s) (found_slot r x s i f)
  where
    go : ((j : ℕ) → same_range r q ≡ false → slot_in s r ≡ Some j → slot_in (slice_set s j None) q ≡ slot_in s q) → ((same_range x r ≡ true) × (i ≡ 0)) ⊎ ((same_range x r ≡ false) × Later r s i) → slot_in (slice_set (Some x ∷ s) i None) q ≡ slot_in (Some x ∷ s) q
    go ih (inl e) = ap (λ k. slot_in (slice_set (Some x ∷ s) k None) q) e.1 ∙ sym (cond-false (same_range x q) (Some 0) (option_map suc (slot_in s q)) (ap (λ y. same_range y q) (same_true x r e.0) ∙ n))
    go ih (inr e) = ap (λ k. slot_in (slice_set (Some x ∷ s) k None) q) e.1.2 ∙ ap (λ o. cond (same_range x q) (Some 0) (option_map suc o)) (ih e.1.0 n e.1.1)

pub clear_stays : (r : Range) (s : Row) (i : ℕ) → lone s ≡ true → slot_in s r ≡ Some i → Stays s (slice_set s i None)
clear_stays r s i a f q _ b = go (cases_Bool (same_range r q))
  where
    go : (same_range r q ≡ true) ⊎ (same_range r q ≡ false) → slot_in (slice_set s i None) q ≡ slot_in s q
    go (inl e) =
        let gone : listed (held_in (slice_set s i None)) r ≡ false = ap (λ t. listed t r) (clear_held r s i a f) ∙ without_gone 0 (held_in s) r (lone_rising s a) in
        absurd (both_ways (listed (held_in (slice_set s i None)) r) gone (ap (listed (held_in (slice_set s i None))) (same_true r q e) ∙ b))
    go (inr n) = clear_slot r q s i n f

-- the law of listeners
pub slots_kept : (kinds : Kind → Bool) (n : ℕ) (s : Row) → length s ≡ n → lone s ≡ true → Kept (table kinds n s)
slots_kept kinds n s e a = record { few = omega (arith, few_held s); rises = lone_rising s a }
