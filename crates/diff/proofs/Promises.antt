-- The laws of a change list, and what an accepted call has written.
use Rattle.std.proofs.Common.{◌≡◌, ℕ, ◌+◌, ◌≤◌, Bool, true, false, cond, leb, List, [], ◌∷◌, ◌++◌, map, length, drop, Some, Ok, Err, count_by, sym, refl, ap, ◌∙◌, subst, arith}
use Rattle.std.specs.List.{AllByRecursion}
use Rattle.std.proofs.lemmas.List.{take_at}
use Rattle.std.proofs.lemmas.List.Sums.{sum_by-cons, sum_by-append}
use Rattle.std.proofs.lemmas.Bool.{leb-true, cond-true, cond-false}
use Rattle.interval.specs.Stretches.{rising}
use Rattle.model.specs.declared.changes.Change.{Change}
use Rattle.model.specs.declared.changes.Change.TheVariants.{Removal, Addition}
use Rattle.model.specs.declared.faults.Fault.TheVariants.{ListShort}
use Rattle.model.specs.Ranges.{Range}
use Rattle.replay.specs.CarryOut.{and_then as then_carry, carry_from}
use Rattle.diff.specs.ChangeLists.{missing, changes, counts as counts_of, list_answer, list_after}
use Rattle.diff.specs.declared.counts.Counts.{Counts}
use Rattle.diff.specs.Laws.{entries, and_then, carry_out, all_changes, last_map, is_removal, is_addition, Replays, Succeeds, RunsReplay, Counted, Fewest, ToldByKind}
use Rattle.diff.proofs.Carrying.{carry_append}
use Rattle.diff.proofs.Fewer.{length_changes, fewest}
use Rattle.diff.proofs.Filtering.{kept_changes}
use Rattle.diff.proofs.Members.{rising_distinct, rising_kept}
use Rattle.diff.proofs.Rooms.{from_append, replays}

-- Counts.

count_all : {X Y : Type 0} (p : Y → Bool) (f : X → Y) → ((x : X) → p (f x) ≡ true) → (xs : List X) → count_by p (map f xs) ≡ length xs
count_all p f h [] = refl
count_all p f h (x ∷ xs) = let one = sum_by-cons (λ y. cond (p y) 1 0) (f x) (map f xs) ∙ ap (λ b. cond b 1 0 + count_by p (map f xs)) (h x) in let ih = count_all p f h xs in omega arith

count_none : {X Y : Type 0} (p : Y → Bool) (f : X → Y) → ((x : X) → p (f x) ≡ false) → (xs : List X) → count_by p (map f xs) ≡ 0
count_none p f h [] = refl
count_none p f h (x ∷ xs) = let one = sum_by-cons (λ y. cond (p y) 1 0) (f x) (map f xs) ∙ ap (λ b. cond b 1 0 + count_by p (map f xs)) (h x) in let ih = count_none p f h xs in omega arith

pub counted_changes : (old new : List Range) → Counted (counts_of old new) (changes old new)
counted_changes old new =
    let outs = missing old new in
    let ins = missing new old in
    let both : (p : Change → Bool) → count_by p (changes old new) ≡ count_by p (map Removal outs) + count_by p (map Addition ins) = λ p. sum_by-append (λ c. cond (p c) 1 0) (map Removal outs) (map Addition ins) in
    record {
      removals = omega (arith, both is_removal, count_all is_removal Removal (λ _. refl) outs, count_none is_removal Addition (λ _. refl) ins);
      additions = omega (arith, both is_addition, count_none is_addition Removal (λ _. refl) outs, count_all is_addition Addition (λ _. refl) ins);
      together = sym (length_changes old new);
    }

-- Successive maps.

succeeds : (old new : List Range) → rising 0 old ≡ true → rising 0 new ≡ true → Succeeds old new (changes old new)
succeeds old new up up' =
    let laws = replays 0 0 old new up up' in
    let cs = changes old new in
    record {
      gives = λ before led. carry_append before cs [] ∙ ap (λ o. and_then o (carry_out cs)) led ∙ laws.gives;
      in_table = λ room before a b led. from_append room 0 before cs [] ∙ ap (λ r. then_carry r (carry_from room (0 + length before) cs)) led ∙ laws.in_table room _ a b;
    }

-- from any map on
pub runs_from : (old : List Range) (maps : List (List Range)) → rising 0 old ≡ true → AllByRecursion (λ m. rising 0 m ≡ true) maps → carry_out (all_changes old maps) old ≡ Some (last_map old maps)
runs_from old [] up ups = refl
runs_from old (new ∷ maps) up ups =
    carry_append (changes old new) (all_changes new maps) old ∙ ap (λ o. and_then o (carry_out (all_changes new maps))) (replays 0 0 old new up ups.0).gives ∙ runs_from new maps ups.0 ups.1

pub runs_in_table : (room i : ℕ) (old : List Range) (maps : List (List Range)) → rising 0 old ≡ true → length old ≤ room → AllByRecursion (λ m. rising 0 m ≡ true) maps → AllByRecursion (λ m. length m ≤ room) maps → carry_from room i (all_changes old maps) old ≡ Ok (last_map old maps)
runs_in_table room i old [] up fit ups fits = refl
runs_in_table room i old (new ∷ maps) up fit ups fits =
    from_append room i (changes old new) (all_changes new maps) old
    ∙ ap (λ r. then_carry r (carry_from room (i + length (changes old new)) (all_changes new maps))) ((replays 0 0 old new up ups.0).in_table room i fit fits.0)
    ∙ runs_in_table room (i + length (changes old new)) new maps ups.0 fits.0 ups.1 fits.1

pub runs_replay : RunsReplay
runs_replay = record { gives = λ maps ups. runs_from [] maps refl ups; in_table = λ room maps ups fits. runs_in_table room 0 [] maps refl (omega arith) ups fits }

-- Kinds.

pub told_by_kind : (old new : List Range) → rising 0 old ≡ true → rising 0 new ≡ true → ToldByKind old new (changes old new)
told_by_kind old new up up' kinds =
    let k : Range → Bool = λ r. kinds r.label.kind in
    subst (Replays _ _) (sym (kept_changes k old new)) (replays 0 0 _ _ (rising_kept k 0 old up) (rising_kept k 0 new up'))

-- All of them, of the entries in front of a list.

pub record Promised (old new : List Range) (c : Counts) (list : List Change) : Type 0 where
  pub counts : Counted c (entries c list)
  pub replays : Replays old new (entries c list)
  pub fewest : Fewest old new (entries c list)
  pub successive : Succeeds old new (entries c list)
  pub kinds : ToldByKind old new (entries c list)

promised : (old new : List Range) (list past : List Change) → rising 0 old ≡ true → rising 0 new ≡ true → list ≡ changes old new ++ past → Promised old new (counts_of old new) list
promised old new list past up up' is =
    let these : changes old new ≡ entries (counts_of old new) list = sym (ap (entries (counts_of old new)) is ∙ take_at (changes old new) past _ (length_changes old new)) in
    record {
      counts = subst (Counted (counts_of old new)) these (counted_changes old new);
      replays = subst (Replays old new) these (replays 0 0 old new up up');
      fewest = subst (Fewest old new) these (fewest old new (rising_distinct 0 old up) (rising_distinct 0 new up'));
      successive = subst (Succeeds old new) these (succeeds old new up up');
      kinds = subst (ToldByKind old new) these (told_by_kind old new up up');
    }

-- The call: it is refused if the entries do not fit, else the list holds them.
module _ (old new : List Range) (c : Counts) (was : List Change) (is : c ≡ counts_of old new) where
  all : c.removed + c.added ≡ length (changes old new)
  all = ap (λ n. n.removed + n.added) is ∙ sym (length_changes old new)

  fits : (b : Bool) → leb (c.removed + c.added) (length was) ≡ b → leb (length (changes old new)) (length was) ≡ b
  fits b e = ap (λ n. leb n (length was)) (sym all) ∙ e

  pub room : leb (c.removed + c.added) (length was) ≡ true → length (changes old new) ≤ length was
  room e = leb-true _ _ (fits true e)

  pub refused : leb (c.removed + c.added) (length was) ≡ false → (Err ListShort ≡ list_answer old new (length was)) × (was ≡ list_after old new was)
  refused e = (sym (cond-false _ _ _ (fits false e)), sym (cond-false _ _ _ (fits false e)))

  module _ (now : List Change) (e : leb (c.removed + c.added) (length was) ≡ true) (wrote : now ≡ changes old new ++ drop (length (changes old new)) was) where
    pub answered : Ok c ≡ list_answer old new (length was)
    answered = ap Ok is ∙ sym (cond-true _ _ _ (fits true e))

    pub written : now ≡ list_after old new was
    written = wrote ∙ sym (cond-true _ _ _ (fits true e))

    pub kept_promises : rising 0 old ≡ true → rising 0 new ≡ true → Promised old new c now
    kept_promises up up' = subst (λ n. Promised old new n now) (sym is) (promised old new now _ up up' wrote)
