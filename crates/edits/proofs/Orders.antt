-- Search orders that a tree may have.
use Rattle.std.proofs.Common.{◌≡◌, ℕ, zero, suc, ◌^◌, ◌<◌, ◌≤◌, Bool, true, false, not, eqb, List, [], ◌∷◌, length, pos, Some, None, filter, Ok, Err, Option, Result, refl, sym, ap, ◌∙◌, subst, ⊎_elim, arith}
use Rattle.std.specs.List.{AllByRecursion}
use Rattle.std.specs.Result.{IsOk, OnOk}
use Rattle.std.proofs.ByRecursion.{all_kept_by, All-weaker}
use Rattle.std.proofs.lemmas.Bool.{and_from, both_ways, cases_lt, cond_both, eqb-false, eqb-true, not-true}
use Rattle.tree.specs.declared.regions.Attachment.{Attachment}
use Rattle.tree.specs.Order.{attachment_of, has_child, once, sorted, inserted, without_child}
use Rattle.tree.proofs.Orders.{one_less, once_kept, once_inserted, sorted_kept, sorted_inserted, all_inserted, once_without, has_without}
use Rattle.edits.specs.Edited.{again_at}
use Rattle.edits.specs.Limits.{Low}

-- There are at most as many attachments as numbers for children.

abbrev Upto : ℕ → Attachment → Type 0
Upto m c = (1 ≤ c.child) × (c.child ≤ m)

upto_without : (m : ℕ) (cs : List Attachment) → AllByRecursion (Upto (suc m)) cs → AllByRecursion (Upto m) (without_child (suc m) cs)
upto_without m [] h = tt
upto_without m (c ∷ cs) h =
    let rest = upto_without m cs h.1 in
    let le = h.0.1 in
    cond_both (not (eqb c.child (suc m))) (c ∷ without_child (suc m) cs) (without_child (suc m) cs) (AllByRecursion (Upto m))
    (λ other. let ne = eqb-false _ _ (not-true (eqb c.child (suc m)) other) in ((h.0.0, ⊎_elim (λ lt. omega arith) (λ ge. absurd (ne (omega arith))) (cases_lt c.child (suc m))), rest))
    (λ _. rest)

few : (m : ℕ) (cs : List Attachment) → once cs ≡ true → AllByRecursion (Upto m) cs → length cs ≤ m
few zero [] e h = omega arith
few zero (c ∷ cs) e h = let low = h.0.0 in let high = h.0.1 in absurd (omega arith)
few (suc m) cs e h =
    let rest = few m (without_child (suc m) cs) (once_kept (λ c. not (eqb c.child (suc m))) cs e) (upto_without m cs h) in
    let most = one_less (suc m) cs e in
    omega arith

pub room : (n : ℕ) (cs : List Attachment) → AllByRecursion Low cs → once cs ≡ true → has_child n cs ≡ false → 1 ≤ n → n < 64 → length cs < 63
room n cs low e none some high =
    let upto = All-weaker Low (Upto 63) (λ c l. let lt = l.child in (l.some, omega arith)) cs low in
    let a : Attachment = record { child = n; parent = 0; offset = 0; priority = pos 0 } in
    let le = few 63 (a ∷ cs) (and_from _ _ (ap not none) e) ((some, omega arith), upto) in
    omega arith

-- so there is room for one more, or for the same again
pub room_without : (a : Attachment) (cs : List Attachment) → Low a → AllByRecursion Low cs → once cs ≡ true → length (without_child a.child cs) < 63
room_without a cs low all e =
    room a.child (without_child a.child cs) (all_kept_by (λ c. not (eqb c.child a.child)) Low cs all) (once_without a.child cs e) (has_without a.child cs) low.some low.child

pub low_inserted : (a : Attachment) (cs : List Attachment) → Low a → AllByRecursion Low cs → AllByRecursion Low (inserted a (without_child a.child cs))
low_inserted a cs low all = all_inserted Low a (without_child a.child cs) low (all_kept_by (λ c. not (eqb c.child a.child)) Low cs all)

pub on_ok : {X E P : Type 0} (r : Result X E) → IsOk r → OnOk r P → P
on_ok (Ok x) is h = h
on_ok (Err e) is h = absurd (both_ways false refl is)

pub record Well (cs : List Attachment) : Type 0 where
  pub low : AllByRecursion Low cs
  pub single : once cs ≡ true
  pub ranked : sorted cs ≡ true

pub well_kept : (p : Attachment → Bool) (cs : List Attachment) → Well cs → Well (filter p cs)
well_kept p cs w = record { low = all_kept_by p Low cs w.low; single = once_kept p cs w.single; ranked = sorted_kept p cs w.ranked }

pub well_inserted : (a : Attachment) (cs : List Attachment) → Low a → has_child a.child cs ≡ false → Well cs → Well (inserted a cs)
well_inserted a cs low none w = record { low = all_inserted Low a cs low w.low; single = once_inserted a cs none w.single; ranked = sorted_inserted a cs w.ranked }

-- what holds of all attachments holds of that of region n
abbrev pub Its : (Attachment → Type 0) → ℕ → Option Attachment → Type 0
Its P n None = Unit {0}
Its P n (Some c) = (c.child ≡ n) × P c

pub its : (P : Attachment → Type 0) (n : ℕ) (cs : List Attachment) → AllByRecursion P cs → Its P n (attachment_of n cs)
its P n [] h = tt
its P n (c ∷ cs) h = cond_both (eqb c.child n) (Some c) (attachment_of n cs) (Its P n) (λ e. (eqb-true _ _ e, h.0)) (λ _. its P n cs h.1)

-- the attachment of region n at another offset, in place of the old one
pub low_moved : (n o : ℕ) (a : Attachment) (cs : List Attachment) → AllByRecursion Low cs → attachment_of n cs ≡ Some a → o ≤ 2 ^ 40 → Low (record { child = a.child; parent = a.parent; offset = o; priority = a.priority })
low_moved n o a cs all e le =
    let h = subst (Its Low n) e (its Low n cs all) in
    record { some = h.1.some; child = h.1.child; parent = h.1.parent; offset = le }

pub moved_again : (n o : ℕ) (a : Attachment) (cs : List Attachment) → AllByRecursion Low cs → attachment_of n cs ≡ Some a → inserted (record { child = a.child; parent = a.parent; offset = o; priority = a.priority }) (without_child a.child cs) ≡ again_at o (attachment_of n cs) (without_child n cs)
moved_again n o a cs all e =
    let h = subst (Its Low n) e (its Low n cs all) in
    ap (λ m. inserted (record { child = a.child; parent = a.parent; offset = o; priority = a.priority }) (without_child m cs)) h.0 ∙ ap (λ q. again_at o q (without_child n cs)) (sym e)

pub well_again : (n o : ℕ) (q : Option Attachment) (cs : List Attachment) → o ≤ 2 ^ 40 → Its Low n q → has_child n cs ≡ false → Well cs → Well (again_at o q cs)
well_again n o None cs le h none w = w
well_again n o (Some c) cs le h none w =
    well_inserted _ cs (record { some = h.1.some; child = h.1.child; parent = h.1.parent; offset = le }) (ap (λ m. has_child m cs) h.0 ∙ none) w
