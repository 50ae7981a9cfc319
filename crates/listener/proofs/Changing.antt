-- What an addition and a removal make of the slots.
use Rattle.std.proofs.Common.{◌≡◌, ℕ, ◌+◌, ◌<◌, Bool, true, false, List, length, set, is_some, Some, None, Option, sym, ap, ◌∙◌, arith}
use Rattle.std.proofs.lemmas.List.{length-set}
use Rattle.std.proofs.lemmas.Bool.{and_from, and_right, lt-ltb, le-ltb, cond-true}
use Rattle.interval.specs.Stretches.{stop, lawful}
use Rattle.interval.specs.Edits.{free}
use Rattle.model.specs.declared.kinds.Kind.{Kind}
use Rattle.model.specs.Ranges.{Range, listed}
use Rattle.listener.specs.Hearing.{admits, with_held, added, removed}
use Rattle.listener.specs.Slots.{held_in, lone, slot_in, free_in, table, Stays}
use Rattle.listener.proofs.Hearings.{still_held}
use Rattle.listener.specs.Rising.{length_put}
use Rattle.listener.specs.Sets.{length_without, without_absent}
use Rattle.listener.specs.Slotting.{full, free_within, put_held, put_lone, put_stays, listed_slot, clear_held, clear_lone, clear_stays}

-- what an addition to a free slot makes
pub record Added (kinds : Kind → Bool) (n : ℕ) (s : List (Option Range)) (r : Range) (i : ℕ) : Type 0 where
  pub within : i < n
  pub taken : admits (table kinds n s) r ≡ true
  pub after : table kinds n (set s i (Some r)) ≡ added (table kinds n s) r
  pub stays : Stays s (set s i (Some r))
  pub whole : length (set s i (Some r)) ≡ n
  pub apart : lone (set s i (Some r)) ≡ true
  pub few : length (held_in s) < n
  pub longer : length (held_in (set s i (Some r))) ≡ length (held_in s) + 1

-- what a removal from a range's slot makes
pub record Removed (kinds : Kind → Bool) (n : ℕ) (s : List (Option Range)) (r : Range) (i : ℕ) : Type 0 where
  pub after : table kinds n (set s i None) ≡ removed (table kinds n s) r
  pub stays : Stays s (set s i None)
  pub whole : length (set s i None) ≡ n
  pub apart : lone (set s i None) ≡ true
  pub shorter : length (held_in s) ≡ length (held_in (set s i None)) + 1

-- an addition, and then the removal
pub stays_through : (kinds : Kind → Bool) (n : ℕ) (s t u : List (Option Range)) (r : Range) → table kinds n t ≡ added (table kinds n s) r → Stays s t → Stays t u → Stays s u
stays_through kinds n s t u r e st tu q hs hu =
    let ht : listed (held_in t) q ≡ true = ap (λ h. listed h.held q) e ∙ still_held (table kinds n s) r q hs in
    tu q ht hu ∙ st q hs ht

module _ (kinds : Kind → Bool) (n : ℕ) (s : List (Option Range)) (r : Range) (whole : length s ≡ n) (apart : lone s ≡ true) where
  module _ (taken : true ≡ kinds r.label.kind) (fit : true ≡ lawful r.start r.length) (clear : true ≡ free r.start (stop r) (held_in s)) where
    pub no_room : None ≡ free_in s → admits (table kinds n s) r ≡ false
    no_room f = and_right (lawful r.start r.length) _ (and_right (kinds r.label.kind) _ (and_right (free r.start (stop r) (held_in s)) _ (le-ltb _ n (omega (arith, full s (sym f))))))

    pub put_in : (i : ℕ) → Some i ≡ free_in s → Added kinds n s r i
    put_in i f =
        let l = sym fit in
        let m = sym clear in
        let g = sym f in
        let w = free_within s i g in
        let room : admits (table kinds n s) r ≡ true = and_from _ _ l (and_from _ _ (sym taken) (and_from _ _ m (lt-ltb _ n (omega (arith, w.1))))) in
        record {
          within = omega (arith, w.0);
          taken = room;
          after = ap (with_held (table kinds n s)) (put_held r l s i apart m g ∙ sym (cond-true _ _ _ room));
          stays = put_stays r l s i m g;
          whole = length-set s i (Some r) ∙ whole;
          apart = put_lone r l s i apart m g;
          few = omega (arith, w.1);
          longer = ap length (put_held r l s i apart m g) ∙ length_put (held_in s) r ∙ omega arith;
        }

  pub not_there : None ≡ slot_in s r → table kinds n s ≡ removed (table kinds n s) r
  not_there f =
      ap (with_held (table kinds n s)) (sym (without_absent (held_in s) r (sym (listed_slot r s) ∙ ap is_some (sym f))))

  pub taken_out : (i : ℕ) → Some i ≡ slot_in s r → Removed kinds n s r i
  taken_out i f =
      let g = sym f in
      record {
        after = ap (with_held (table kinds n s)) (clear_held r s i apart g);
        stays = clear_stays r s i apart g;
        whole = length-set s i None ∙ whole;
        apart = clear_lone r s i apart g;
        shorter = sym (omega (arith, ap length (clear_held r s i apart g), length_without (held_in s) r (sym (listed_slot r s) ∙ ap is_some g)));
      }
