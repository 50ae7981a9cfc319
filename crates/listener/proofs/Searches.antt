-- What the searches through the slots find.
use Rattle.std.proofs.Common.{◌≡◌, ℕ, suc, ◌+◌, Bool, true, false, cond, ◌&&◌, List, [], ◌∷◌, length, Some, None, Option, sym, refl, ap, subst, IsTrue, ◌∙◌, arith}
use denote.Ref.{Bor}
use Rattle.std.specs.Bool.{MatchBool}
use Rattle.std.specs.Option.{option_map, option_copied, option_to_list}
use Rattle.std.specs.List.{position_from, flat_map, list_all}
use Rattle.std.proofs.lemmas.Iterator.{YieldsList}
use Rattle.std.proofs.lemmas.Iterator.Consumers.{YieldsList-from_shown}
use Rattle.interval.specs.Edits.{apart, free}
use Rattle.model.specs.Ranges.{Range, same_range}
use Rattle.listener.specs.Slots.{held_in, slot_in, free_in}
use Rattle.listener.specs.Rising.{free_put}

-- whether the slot has the range; whether it has none
abbrev pub has : Range → Option Range → Bool
has r None = false
has r (Some x) = same_range x r

abbrev pub is_free : Option Range → Bool
is_free None = true
is_free (Some x) = false

-- the first place that passes, where F is a search that says the same of each slot in turn
module _ (test : Option Range → Bool) (F : List (Option Range) → Option ℕ) (none : F [] ≡ None) (step : (o : Option Range) (s : List (Option Range)) → F (o ∷ s) ≡ cond (test o) (Some 0) (option_map suc (F s))) where
  moved : (i : ℕ) (b : Bool) (o : Option ℕ) → cond b (Some i) (option_map (λ j. (i + 1) + j) o) ≡ option_map (λ j. i + j) (cond b (Some 0) (option_map suc o))
  moved i true o = ap Some (omega arith)
  moved i false None = refl
  moved i false (Some k) = ap Some (omega arith)

  from : (i : ℕ) (s : List (Option Range)) → position_from test i s ≡ option_map (λ j. i + j) (F s)
  from i [] = sym (ap (option_map (λ j. i + j)) none)
  from i (o ∷ s) = ap (cond (test o) (Some i)) (from (i + 1) s) ∙ moved i (test o) (F s) ∙ sym (ap (option_map (λ j. i + j)) (step o s))

  same : (o : Option ℕ) → option_map (λ j. 0 + j) o ≡ o
  same None = refl
  same (Some k) = ap Some (omega arith)

  pub first : (s : List (Option Range)) → position_from test 0 s ≡ F s
  first s = from 0 s ∙ same (F s)

pub first_slot : (r : Range) (s : List (Option Range)) → position_from (has r) 0 s ≡ slot_in s r
first_slot r = first (has r) (λ s. slot_in s r) refl go
  where
    go : (o : Option Range) (s : List (Option Range)) → slot_in (o ∷ s) r ≡ cond (has r o) (Some 0) (option_map suc (slot_in s r))
    go None s = refl
    go (Some x) s = refl

pub first_free : (s : List (Option Range)) → position_from is_free 0 s ≡ free_in s
first_free = first is_free free_in refl go
  where
    go : (o : Option Range) (s : List (Option Range)) → free_in (o ∷ s) ≡ cond (is_free o) (Some 0) (option_map suc (free_in s))
    go None s = refl
    go (Some x) s = refl

-- the ranges in the order of their slots are as clear of a range as those that rise by start
pub all_clear : (a e : ℕ) (s : List (Option Range)) → list_all (apart a e) (flat_map option_to_list s) ≡ free a e (held_in s)
all_clear a e [] = refl
all_clear a e (None ∷ s) = all_clear a e s
all_clear a e (Some x ∷ s) = ap (λ t. apart a e x && t) (all_clear a e s) ∙ sym (free_put a e (held_in s) x)

-- an iterator that gives the value of an option, if it has one, and then has done
module _ {A S : Type 0} (item : S → Option A) (done : S → Bool) where
  abbrev steps : S → Option (Bor A) → S → Type 0
  steps s r t = IsTrue (done t) × MatchBool (done s) (r ≡ None) (option_copied r ≡ item s)

  shown : S → List A
  shown s = cond (done s) [] (option_to_list (item s))

  ended : (s t : S) → steps s None t → length (shown s) ≡ 0
  unfolding shown
  ended s t e = go (done s) (item s) e.1
    where
      go : (b : Bool) (o : Option A) → MatchBool b (◌≡◌ {A = Option (Bor A)} None None) (None ≡ o) → length (cond b [] (option_to_list o)) ≡ 0
      go true o e = refl
      go false None e = refl
      go false (Some x) e = absurd (cc)

  gave : (s : S) (x : Bor A) (t : S) → steps s (Some x) t → shown s ≡ x.now ∷ shown t
  unfolding shown
  gave s x t e = go (done s) (item s) (done t) (item t) e.0 e.1
    where
      go : (b : Bool) (o : Option A) (c : Bool) (p : Option A) → IsTrue c → MatchBool b (Some x ≡ None) (Some x.now ≡ o) → cond b [] (option_to_list o) ≡ x.now ∷ cond c [] (option_to_list p)
      go true o c p d e = absurd (cc)
      go false None c p d e = absurd (cc)
      go false (Some y) true p d e = cc
      go false (Some y) false p d e = absurd (cc)

  pub of_option : (o : Option A) (s : S) → item s ≡ o → done s ≡ false → YieldsList steps (λ y. y.now) s (option_to_list o)
  unfolding shown
  of_option o s e d = subst (YieldsList steps (λ y. y.now) s) (ap (λ b. cond b [] (option_to_list (item s))) d ∙ ap option_to_list e) (YieldsList-from_shown steps (λ y. y.now) shown ended gave s)
