-- The promises of an edit, from its rows.
use Rattle.std.proofs.Common.{◌≡◌, ℕ, ◌<◌, Bool, true, false, cond, not, eqb, List, [], ◌∷◌, ◌++◌, ℤ, ◌≤ℤ◌, ◌<ℤ◌, is_some, Some, None, Ok, Err, Option, Result, sym, refl, ap, ◌∙◌, subst, arith, lit<}
use lib.Signed.{lt_z}
use Rattle.std.specs.List.{AllByRecursion}
use Rattle.std.proofs.ByRecursion.{All-weaker}
use Rattle.std.proofs.lemmas.Int.{ints}
use Rattle.std.proofs.lemmas.Bool.{both_ways, cond_both, not-false}
use Rattle.std.proofs.lemmas.Bool.Decides.{not_from_Decides}
use Rattle.model.specs.Faults.{row}
use Rattle.model.specs.declared.faults.Fault.{Fault}
use Rattle.model.specs.declared.faults.Fault.TheVariants.{Cycle, TooDeep}
use Rattle.tree.specs.declared.regions.Attachment.{Attachment}
use Rattle.tree.specs.Model.{Model}
use Rattle.tree.specs.Order.{attachment_of, has_child, inserted, sorted, without_child}
use Rattle.tree.specs.Paths.{ComesBack, TooLong, Lawful}
use Rattle.edits.specs.declared.edit.Edit.{Edit}
use Rattle.edits.specs.declared.edit.Edit.TheVariants.{Container, Leaf, Alias, Attach, Detach, Move, Switch, Protect, Remove}
use Rattle.edits.specs.declared.edit.Backing.{Backing}
use Rattle.edits.specs.Edited.{again_at, edited}
use Rattle.edits.specs.Limits.{Low}
use Rattle.edits.specs.PathTests.{comes_back, too_long, Decided}
use Rattle.edits.specs.Promises.{PathsTold, LeadsEquals, Moved, Reordered}
use Rattle.model.specs.Rows.{Row, first_applying, told}
use Rattle.edits.specs.Rows.{alias_rows, attach_rows, path_rows, edit_rows}
use Rattle.tree.proofs.Orders.{attached_some, behind_all, sorted_behind, sorted_rest, sorted_kept}
use Rattle.edits.proofs.Orders.{Well, Its, its}
use Rattle.edits.proofs.Sound.{Sound, Passed, passes, stopped, passed_then, sound_edit, decided_alias, decided_attach}
use Rattle.edits.proofs.Walks.{short_lawful}

-- Paths.

record Says (m : Model) (q : Option Fault) : Type 0 where
  cycle : q ≡ Some Cycle → ComesBack m
  deep : q ≡ Some TooDeep → TooLong m × (ComesBack m → ⊥)
  lawful : q ≡ None → Lawful m

never : (f : Fault) → ◌≡◌ {A = Option Fault} (Some f) None → ⊥
never f e = let z : ◌≡◌ {A = ℕ} 0 1 = cc in omega arith

some_same : (f g : Fault) → ◌≡◌ {A = Option Fault} (Some f) (Some g) → f ≡ g
some_same f g e = cc

apart : (f g : Fault) → f ≡ g → ((row f).number ≡ (row g).number → ⊥) → ⊥
apart f g e ne = ne (ap (λ x. (row x).number) e)

late : (m : Model) → Decided m → Says m (first_applying (path_rows m))
late m d = by_tests (comes_back m) (too_long m) refl refl
  where
    by_tests : (x y : Bool) → comes_back m ≡ x → too_long m ≡ y → Says m (cond x (Some Cycle) (cond y (Some TooDeep) None))
    by_tests true y e f = record {
      cycle = λ _. d.back.0 e;
      deep = λ is. absurd (apart Cycle TooDeep (some_same _ _ is) (λ n. omega arith));
      lawful = λ is. absurd (never Cycle is);
    }
    by_tests false true e f = record {
      cycle = λ is. absurd (apart TooDeep Cycle (some_same _ _ is) (λ n. omega arith));
      deep = λ _. (d.long.0 f, not_from_Decides (comes_back m) d.back e);
      lawful = λ is. absurd (never TooDeep is);
    }
    by_tests false false e f = record {
      cycle = λ is. absurd (never Cycle (sym is));
      deep = λ is. absurd (never TooDeep (sym is));
      lawful = λ _. (not_from_Decides (comes_back m) d.back e, not_from_Decides (too_long m) d.long f);
    }

-- a row above those of paths
abbrev Early : Row → Type 0
Early r = (row r.1).number < 12

early_fault : (rs : List Row) (f : Fault) → AllByRecursion Early rs → first_applying rs ≡ Some f → (row f).number < 12
early_fault [] f h e = absurd (never f (sym e))
early_fault (r ∷ rs) f h e = at r.0 e (early_fault rs f h.1)
  where
    at : (b : Bool) → cond b (Some r.1) (first_applying rs) ≡ Some f → (first_applying rs ≡ Some f → (row f).number < 12) → (row f).number < 12
    at true e ih = subst (λ x. (row x).number < 12) (some_same _ _ e) h.0
    at false e ih = ih e

early_says : (m : Model) (rs : List Row) → AllByRecursion Early rs → (Passed rs → Lawful m) → Says m (first_applying rs)
early_says m rs h law = record {
  cycle = λ is. let lt = early_fault rs Cycle h is in absurd (omega arith);
  deep = λ is. let lt = early_fault rs TooDeep h is in absurd (omega arith);
  lawful = λ is. law (passes rs is);
}

then_says : (m : Model) (rs : List Row) → AllByRecursion Early rs → (Passed rs → Decided m) → Says m (first_applying (rs ++ path_rows m))
then_says m rs h dec = by_first (first_applying rs) refl
  where
    by_first : (q : Option Fault) → first_applying rs ≡ q → Says m (first_applying (rs ++ path_rows m))
    by_first None e = subst (Says m) (sym (passed_then rs (path_rows m) (passes rs e))) (late m (dec (passes rs e)))
    by_first (Some f) e =
        let is = stopped rs (path_rows m) f e in
        let lt = early_fault rs f h e in
        record {
          cycle = λ c. let same = ap (λ x. (row x).number) (some_same f Cycle (sym is ∙ c)) in absurd (omega arith);
          deep = λ c. let same = ap (λ x. (row x).number) (some_same f TooDeep (sym is ∙ c)) in absurd (omega arith);
          lawful = λ c. absurd (never f (sym is ∙ c));
        }

law : (b : Backing) (t : Model) (e : Edit) → Sound t → Passed (edit_rows b t e) → Lawful (edited b t e)
law b t e h ok = short_lawful (edited b t e) (sound_edit b t e ok h).short

says : (b : Backing) (t : Model) (e : Edit) → Sound t → Says (edited b t e) (first_applying (edit_rows b t e))
says b t (Container n s) h = early_says _ (edit_rows b t (Container n s)) (lit< tt, (lit< tt, (lit< tt, tt))) (law b t (Container n s) h)
says b t (Leaf n s d) h = early_says _ (edit_rows b t (Leaf n s d)) (lit< tt, (lit< tt, (lit< tt, (lit< tt, tt)))) (law b t (Leaf n s d) h)
says b t (Alias n s r f) h = then_says _ (alias_rows t n s r f) (lit< tt, (lit< tt, (lit< tt, (lit< tt, (lit< tt, tt))))) (decided_alias b t n s r f h)
says b t (Attach n p o i) h = then_says _ (attach_rows t n p o) (lit< tt, (lit< tt, (lit< tt, (lit< tt, (lit< tt, (lit< tt, tt)))))) (decided_attach b t n p o i h)
says b t (Detach n) h = early_says _ (edit_rows b t (Detach n)) (lit< tt, (lit< tt, (lit< tt, tt))) (law b t (Detach n) h)
says b t (Move n o) h = early_says _ (edit_rows b t (Move n o)) (lit< tt, (lit< tt, (lit< tt, (lit< tt, tt)))) (law b t (Move n o) h)
says b t (Switch n v) h = early_says _ (edit_rows b t (Switch n v)) (lit< tt, (lit< tt, tt)) (law b t (Switch n v) h)
says b t (Protect n v) h = early_says _ (edit_rows b t (Protect n v)) (lit< tt, (lit< tt, tt)) (law b t (Protect n v) h)
says b t (Remove n) h = early_says _ (edit_rows b t (Remove n)) (lit< tt, (lit< tt, (lit< tt, tt))) (law b t (Remove n) h)

pub paths_told : (b : Backing) (t : Model) (e : Edit) (r : Result (Unit {0}) Fault) → Sound t → r ≡ told (first_applying (edit_rows b t e)) → PathsTold b t e r
paths_told b t e r h is = record {
  cycle = λ c. told_by.cycle (some_told _ Cycle (sym is ∙ c));
  deep = λ c. told_by.deep (some_told _ TooDeep (sym is ∙ c));
  lawful = λ c. told_by.lawful (none_told _ (sym is ∙ c));
}
  where
    told_by : Says (edited b t e) (first_applying (edit_rows b t e))
    told_by = says b t e h

    some_told : (q : Option Fault) (f : Fault) → told q ≡ Err f → q ≡ Some f
    some_told None f e = absurd (let z : ◌≡◌ {A = ℕ} 0 1 = cc in omega arith)
    some_told (Some g) f e = cc

    none_told : (q : Option Fault) → told q ≡ Ok tt → q ≡ None
    none_told None e = refl
    none_told (Some g) e = absurd (let z : ◌≡◌ {A = ℕ} 0 1 = cc in omega arith)

-- The search order.

less : (x y : ℤ) → lt_z x y ≡ true → x <ℤ y
less x y e = grind (arith, ints)

no_less : (x y : ℤ) → lt_z x y ≡ false → y ≤ℤ x
no_less x y e = grind (arith, ints)

leads_equals : (a : Attachment) (cs : List Attachment) → sorted cs ≡ true → LeadsEquals a cs (inserted a cs)
leads_equals a [] e = record { higher = []; rest = []; were = refl; are = refl; behind = tt; before = tt }
leads_equals a (c ∷ cs) e =
    let ih = leads_equals a cs (sorted_rest c cs e) in
    cond_both (lt_z a.priority c.priority) (c ∷ inserted a cs) (a ∷ c ∷ cs) (LeadsEquals a (c ∷ cs))
    (λ up. record { higher = c ∷ ih.higher; rest = ih.rest; were = ap (λ l. c ∷ l) ih.were; are = ap (λ l. c ∷ l) ih.are; behind = (less a.priority c.priority up, ih.behind); before = ih.before })
    (λ down. record {
      higher = [];
      rest = c ∷ cs;
      were = refl;
      are = refl;
      behind = tt;
      before = (no_less a.priority c.priority down, All-weaker (λ d. lt_z a.priority d.priority ≡ false) (λ d. d.priority ≤ℤ a.priority) (λ d k. no_less a.priority d.priority k) cs (behind_all a c cs down (sorted_behind c cs e)));
    })

moved : (n o : ℕ) (cs : List Attachment) → Well cs → has_child n cs ≡ true → Moved n o cs (again_at o (attachment_of n cs) (without_child n cs))
moved n o cs w there = by_found (attachment_of n cs) refl (attached_some n cs ∙ there) (its Low n cs w.low)
  where
    rest : List Attachment
    rest = without_child n cs

    by_found : (q : Option Attachment) → attachment_of n cs ≡ q → is_some q ≡ true → Its Low n q → Moved n o cs (again_at o q rest)
    by_found None e some h = absurd (both_ways false refl some)
    by_found (Some c) e some h = record {
      from = c;
      found = e;
      leads = subst (λ m. LeadsEquals (record { child = m; parent = c.parent; offset = o; priority = c.priority }) rest (inserted (record { child = c.child; parent = c.parent; offset = o; priority = c.priority }) rest)) h.0
          (leads_equals (record { child = c.child; parent = c.parent; offset = o; priority = c.priority }) rest (sorted_kept (λ d. not (eqb d.child n)) cs w.ranked));
    }

pub reordered : (b : Backing) (t : Model) (e : Edit) → Sound t → Passed (edit_rows b t e) → Reordered e t.attachments (edited b t e).attachments
unfolding edited
reordered b t (Container n s) h ok = refl
reordered b t (Leaf n s d) h ok = refl
reordered b t (Alias n s r f) h ok = refl
reordered b t (Attach n p o i) h ok = leads_equals (record { child = n; parent = p; offset = o; priority = i }) t.attachments h.well.ranked
reordered b t (Detach n) h ok = refl
reordered b t (Move n o) h ok = moved n o t.attachments h.well (not-false (has_child n t.attachments) ok.1.1.1.0)
reordered b t (Switch n v) h ok = refl
reordered b t (Protect n v) h ok = refl
reordered b t (Remove n) h ok = refl
