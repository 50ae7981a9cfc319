-- An accepted edit keeps what is true of every tree.
use Rattle.std.proofs.Common.{◌≡◌, ℕ, ◌^◌, ◌<◌, ◌≤◌, Bool, true, false, cond, not, eqb, ltb, ◌⊎◌, List, [], ◌∷◌, ◌++◌, length, get_or, ℤ, is_some, Some, None, Ok, Err, filter, Option, sym, refl, ap, ◌∙◌, subst, inl, inr, ⊎_elim, arith}
use lib.Signed.{lt_z}
use Rattle.std.specs.List.{AllByRecursion}
use Rattle.std.proofs.ByRecursion.{All-set}
use Rattle.std.proofs.lemmas.List.{get_or-set_same, get_or-set_other, set_past, length-set}
use Rattle.std.proofs.lemmas.Bool.{and_from, both_ways, or_from, or_parts, cond-true, cond-false, cond_both, cases_Bool, cases_lt, cases_eq, le-leb, le-ltb, lt-ltb, ltb-false, eqb-false}
use Rattle.std.proofs.lemmas.Bool.Decides.{not_from_Decides}
use Rattle.model.specs.declared.faults.Fault.{Fault}
use Rattle.tree.specs.declared.regions.Body.{Body}
use Rattle.tree.specs.declared.regions.Body.TheVariants as body
use Rattle.tree.specs.declared.regions.Region.{Region}
use Rattle.tree.specs.declared.regions.Attachment.{Attachment}
use Rattle.tree.specs.Bounds.{bad_size, bounded_body}
use Rattle.tree.specs.Model.{Model, region_at, fresh}
use Rattle.tree.specs.Order.{attachment_of, has_child, inserted, without_child}
use Rattle.tree.specs.Paths.{Holds, Edge, holds, shows}
use Rattle.edits.specs.declared.edit.Edit.{Edit}
use Rattle.edits.specs.declared.edit.Edit.TheVariants.{Container, Leaf, Alias, Attach, Detach, Move, Switch, Protect, Remove}
use Rattle.edits.specs.declared.edit.Backing.{Backing}
use Rattle.edits.specs.Checks.{checked}
use Rattle.edits.specs.Edges.{Short, OneMore, OneNew}
use Rattle.edits.specs.Edited.{with_region, with_order, switched, marked, again_at, edited}
use Rattle.edits.specs.Limits.{Low}
use Rattle.edits.specs.PathTests.{targets, targets_of, too_long, Decided}
use Rattle.model.specs.Rows.{Row, first_applying, told}
use Rattle.edits.specs.Rows.{no_number, no_region, defined, alias_rows, attach_rows, path_rows, edit_rows}
use Rattle.edits.proofs.Limits.{Bounded, from_low, Fine, from_fine, fine_anywhere}
use Rattle.tree.proofs.Orders.{has_without}
use Rattle.edits.proofs.Orders.{Well, well_kept, well_inserted, well_again, its}
use Rattle.edits.proofs.Walks.{In, in_targets, numbered, long_decided, short_from, short_older, decided}

-- Edges after a change of the order.

held_inserted : (r s : ℕ) (a : Attachment) (cs : List Attachment) → Holds r s (inserted a cs) → Holds r s cs ⊎ ((a.parent ≡ r) × (a.child ≡ s))
held_inserted r s a [] (inl h) = inr h
held_inserted r s a [] (inr h) = absurd h
held_inserted r s a (c ∷ cs) h =
    cond_both (lt_z a.priority c.priority) (c ∷ inserted a cs) (a ∷ c ∷ cs) (λ l. Holds r s l → Holds r s (c ∷ cs) ⊎ ((a.parent ≡ r) × (a.child ≡ s)))
    (λ _ k. ⊎_elim (λ u. inl (inl u)) (λ u. ⊎_elim (λ v. inl (inr v)) inr (held_inserted r s a cs u)) k)
    (λ _ k. ⊎_elim (λ u. inr u) inl k)
    h

inserted_held : (r s : ℕ) (a : Attachment) (cs : List Attachment) → Holds r s cs → Holds r s (inserted a cs)
inserted_held r s a [] h = absurd h
inserted_held r s a (c ∷ cs) h =
    cond_both (lt_z a.priority c.priority) (c ∷ inserted a cs) (a ∷ c ∷ cs) (Holds r s)
    (λ _. ⊎_elim (λ u. inl u) (λ u. inr (inserted_held r s a cs u)) h)
    (λ _. inr h)

kept_held : (p : Attachment → Bool) (r s : ℕ) (cs : List Attachment) → Holds r s (filter p cs) → Holds r s cs
kept_held p r s [] h = h
kept_held p r s (c ∷ cs) h =
    cond_both (p c) (c ∷ filter p cs) (filter p cs) (λ l. Holds r s l → Holds r s (c ∷ cs))
    (λ _ k. ⊎_elim (λ u. inl u) (λ u. inr (kept_held p r s cs u)) k)
    (λ _ k. inr (kept_held p r s cs k))
    h

abbrev HeldBy : List Attachment → Option Attachment → Type 0
HeldBy cs None = Unit {0}
HeldBy cs (Some c) = Holds c.parent c.child cs

held_by_more : (d : Attachment) (cs : List Attachment) (o : Option Attachment) → HeldBy cs o → HeldBy (d ∷ cs) o
held_by_more d cs None h = tt
held_by_more d cs (Some c) h = inr h

attachment_held : (n : ℕ) (cs : List Attachment) → HeldBy cs (attachment_of n cs)
attachment_held n [] = tt
attachment_held n (c ∷ cs) =
    cond_both (eqb c.child n) (Some c) (attachment_of n cs) (HeldBy (c ∷ cs)) (λ _. inl (refl, refl)) (λ _. held_by_more c cs (attachment_of n cs) (attachment_held n cs))

again_held : (r s o : ℕ) (cs ds : List Attachment) (q : Option Attachment) → HeldBy cs q → ((x y : ℕ) → Holds x y ds → Holds x y cs) → Holds r s (again_at o q ds) → Holds r s cs
again_held r s o cs ds None h sub k = sub r s k
again_held r s o cs ds (Some c) h sub k =
    ⊎_elim (sub r s) (λ e. subst (λ x. Holds x s cs) e.0 (subst (λ y. Holds c.parent y cs) e.1 h)) (held_inserted r s _ ds k)

order_edge : (t : Model) (cs : List Attachment) (r s : ℕ) → (Holds r s cs → Edge t r s) → Edge (with_order t cs) r s → Edge t r s
order_edge t cs r s sub (holds h) = sub h
order_edge t cs r s sub (shows g f e is) = shows g f e is

-- Edges after a change of a region.

module _ (t : Model) (n : ℕ) (x : Option Region) where
  region_elsewhere : (r : ℕ) → (r ≡ n → ⊥) → region_at (with_region t n x) r ≡ region_at t r
  region_elsewhere r ne = get_or-set_other t.regions n r x None ne

  region_edge : (r s : ℕ) → Edge (with_region t n x) r s → Edge t r s ⊎ ((r ≡ n) × In s (targets_of x))
  region_edge r s (holds h) = inl (holds h)
  region_edge r s (shows g f e is) = ⊎_elim
      (λ d. ⊎_elim
      (λ lt. inr (d, subst (λ o. In s (targets_of o)) (sym e ∙ ap (region_at (with_region t n x)) d ∙ get_or-set_same t.regions n x None lt) (subst (λ b. In s (targets b)) (sym is) (inl refl))))
      (λ le. inl (shows g f (ap (λ l. get_or l r None) (sym (set_past t.regions n x le)) ∙ e) is))
      (cases_lt n (length t.regions)))
      (λ ne. inl (shows g f (sym (region_elsewhere r ne) ∙ e) is))
      (cases_eq r n)

  no_new_edge : ((s : ℕ) → In s (targets_of x) → Edge t n s) → (r s : ℕ) → Edge (with_region t n x) r s → Edge t r s
  no_new_edge sub r s e = ⊎_elim (λ h. h) (λ h. subst (λ y. Edge t y s) (sym h.0) (sub s h.1)) (region_edge r s e)

targets_switched : (b : Bool) (o : Option Region) → targets_of (switched b o) ≡ targets_of o
targets_switched b None = refl
targets_switched b (Some g) = refl

targets_marked : (b : Bool) (o : Option Region) → targets_of (marked b o) ≡ targets_of o
targets_marked b None = refl
targets_marked b (Some g) = refl

-- What is true of every tree.

pub record Sound (t : Model) : Type 0 where
  pub numbered : length t.regions ≡ 64
  pub fine : AllByRecursion Fine t.regions
  pub well : Well t.attachments
  pub short : Short t

pub bounded : (t : Model) → length t.regions ≡ 64 → AllByRecursion Fine t.regions → Well t.attachments → Bounded t
bounded t n f w = record { numbered = n; sizes = from_fine t.regions f; offsets = from_low t.attachments w.low }

-- Rows that do not apply.

abbrev pub Passed : List Row → Type 0
Passed rs = AllByRecursion (λ (r : Row). r.0 ≡ false) rs

pub passes : (rs : List Row) → first_applying rs ≡ None → Passed rs
passes [] e = tt
passes (r ∷ rs) e = ⊎_elim
    (λ y. absurd (never r.1 (sym (cond-true r.0 (Some r.1) (first_applying rs) y) ∙ e)))
    (λ n. (n, passes rs (sym (cond-false r.0 (Some r.1) (first_applying rs) n) ∙ e)))
    (cases_Bool r.0)
  where
    never : (f : Fault) → ◌≡◌ {A = Option Fault} (Some f) None → ⊥
    never f e = let z : ◌≡◌ {A = ℕ} 0 1 = cc in omega arith

-- the rows rs come before the rows qs
pub stopped : (rs qs : List Row) (f : Fault) → first_applying rs ≡ Some f → first_applying (rs ++ qs) ≡ Some f
stopped [] qs f e = absurd (let z : ◌≡◌ {A = ℕ} 0 1 = cc in omega arith)
stopped (r ∷ rs) qs f e = at r.0 e (stopped rs qs f)
  where
    at : (b : Bool) → cond b (Some r.1) (first_applying rs) ≡ Some f → (first_applying rs ≡ Some f → first_applying (rs ++ qs) ≡ Some f) → cond b (Some r.1) (first_applying (rs ++ qs)) ≡ Some f
    at true e ih = e
    at false e ih = ih e

pub passed_then : (rs qs : List Row) → Passed rs → first_applying (rs ++ qs) ≡ first_applying qs
passed_then [] qs h = refl
passed_then (r ∷ rs) qs h = cond-false r.0 (Some r.1) (first_applying (rs ++ qs)) h.0 ∙ passed_then rs qs h.1

first_passed : (rs qs : List Row) → Passed (rs ++ qs) → Passed rs
first_passed [] qs h = tt
first_passed (r ∷ rs) qs h = (h.0, first_passed rs qs h.1)

pub all_passed : (rs : List Row) → Passed rs → first_applying rs ≡ None
all_passed [] h = refl
all_passed (r ∷ rs) h = cond-false r.0 (Some r.1) (first_applying rs) h.0 ∙ all_passed rs h.1

-- what an answer of a check says of its row
pub unrefused : {X : Type 0} (b : Bool) (f : Fault) (x y : X) → Ok y ≡ checked b f x → b ≡ false
unrefused true f x y e = absurd (let z : ◌≡◌ {A = ℕ} 0 1 = cc in omega arith)
unrefused false f x y e = refl

pub refused : {X : Type 0} (b : Bool) (f e : Fault) (x : X) (later : Option Fault) → Err e ≡ checked b f x → cond b (Some f) later ≡ Some e
refused true f e x later is = cc
refused false f e x later is = absurd (let z : ◌≡◌ {A = ℕ} 0 1 = cc in omega arith)

-- the rows above those of paths, and then those
pub tested : (b : Backing) (t : Model) (e : Edit) (rs : List Row) (later : Model) → edit_rows b t e ≡ rs ++ path_rows (edited b t e) → first_applying rs ≡ None → later ≡ edited b t e →
    first_applying (edit_rows b t e) ≡ first_applying (path_rows later)
tested b t e rs later is ok same = ap first_applying is ∙ passed_then rs (path_rows (edited b t e)) (passes rs ok) ∙ ap (λ m. first_applying (path_rows m)) (sym same)

-- what an answer says of its refusal
pub none_told : (o : Option Fault) (x : Unit {0}) → Ok x ≡ told o → o ≡ None
none_told None x e = refl
none_told (Some f) x e = absurd (let z : ◌≡◌ {A = ℕ} 0 1 = cc in omega arith)

pub some_told : (o : Option Fault) (f : Fault) → Err f ≡ told o → o ≡ Some f
some_told None f e = absurd (let z : ◌≡◌ {A = ℕ} 0 1 = cc in omega arith)
some_told (Some g) f e = cc

pub known : (t : Model) (n : ℕ) (g : Region) → n < 64 → region_at t n ≡ Some g → no_region t n ≡ false
known t n g lt e = or_from _ _ (le-ltb 63 n (omega arith)) (ap (λ o. not (is_some o)) e)

pub known_low : (t : Model) (p : ℕ) → no_region t p ≡ false → p < 64
known_low t p e = let h = ltb-false 63 p (or_parts (no_number p) (not (defined t p)) e).0 in omega arith

pub fine_new : (s : ℕ) (b : Body) → bad_size s ≡ false → bounded_body b ≡ true → Fine (Some (fresh b s))
fine_new s b ok e =
    let parts = or_parts (eqb s 0) (ltb (2 ^ 40) s) ok in
    let some = eqb-false s 0 parts.0 in
    let most = ltb-false (2 ^ 40) s parts.1 in
    and_from _ _ (le-leb 1 s (⊎_elim (λ lt. absurd (some (omega arith))) (λ le. le) (cases_lt s 1))) (and_from _ _ (le-leb s (2 ^ 40) most) e)

fine_switched : (v : Bool) (o : Option Region) → Fine o → Fine (switched v o)
fine_switched v None e = e
fine_switched v (Some g) e = e

fine_marked : (v : Bool) (o : Option Region) → Fine o → Fine (marked v o)
fine_marked v None e = e
fine_marked v (Some g) e = e

-- The two edits that add an edge, up to their tests of paths.

pub record Grown (later : Model) (p q : ℕ) (t : Model) : Type 0 where
  pub numbered : length later.regions ≡ 64
  pub fine : AllByRecursion Fine later.regions
  pub well : Well later.attachments
  pub one : OneMore t later p q

module _ (t : Model) (h : Sound t) where
  pub attach_grows : (a : Attachment) → Low a → has_child a.child t.attachments ≡ false → Grown (with_order t (inserted a t.attachments)) a.parent a.child t
  attach_grows a low none = record { numbered = h.numbered; fine = h.fine; well = well_inserted a t.attachments low none h.well; one = record { old = old; new = new } }
    where
      old : (r s : ℕ) → Edge t r s → Edge (with_order t (inserted a t.attachments)) r s
      old r s (holds k) = holds (inserted_held r s a t.attachments k)
      old r s (shows g f e is) = shows g f e is

      new : (r s : ℕ) → Edge (with_order t (inserted a t.attachments)) r s → Edge t r s ⊎ ((r ≡ a.parent) × (s ≡ a.child))
      new r s (holds k) = ⊎_elim (λ u. inl (holds u)) (λ u. inr (sym u.0, sym u.1)) (held_inserted r s a t.attachments k)
      new r s (shows g f e is) = inl (shows g f e is)

  pub alias_grows : (n s r f : ℕ) → defined t n ≡ false → bad_size s ≡ false → r < 64 → f ≤ 2 ^ 40 → Grown (with_region t n (Some (fresh (body.Alias r f) s))) n r t
  alias_grows n s r f none size low off = record {
    numbered = length-set t.regions n _ ∙ h.numbered;
    fine = All-set Fine t.regions n _ (fine_new s (body.Alias r f) size (and_from _ _ (lt-ltb r 64 low) (le-leb f (2 ^ 40) off))) h.fine;
    well = h.well;
    one = record { old = old; new = new };
  }
    where
      old : (a b : ℕ) → Edge t a b → Edge (with_region t n (Some (fresh (body.Alias r f) s))) a b
      old a b (holds k) = holds k
      old a b (shows g k e is) = ⊎_elim
          (λ d. absurd (both_ways (defined t n) none (ap is_some (ap (region_at t) (sym d) ∙ e))))
          (λ ne. shows g k (region_elsewhere t n _ a ne ∙ e) is)
          (cases_eq a n)

      new : (a b : ℕ) → Edge (with_region t n (Some (fresh (body.Alias r f) s))) a b → Edge t a b ⊎ ((a ≡ n) × (b ≡ r))
      new a b e = ⊎_elim inl (λ u. inr (u.0, ⊎_elim (λ v. sym v) (λ v. absurd v) u.1)) (region_edge t n _ a b e)

-- such a tree's paths can be tested
pub grown_bounded : (later t : Model) (p q : ℕ) → Grown later p q t → Bounded later
grown_bounded later t p q g = bounded later g.numbered g.fine g.well

pub grown_new : (later t : Model) (p q : ℕ) → Short t → Grown later p q t → OneNew later p
grown_new later t p q short g = record { before = t; to = q; short = short; one = g.one }

grown_decided : (later t : Model) (p q : ℕ) → Short t → Grown later p q t → Decided later
grown_decided later t p q short g = decided t later p q g.one short (numbered later (grown_bounded later t p q g))

grown_sound : (later t : Model) (p q : ℕ) → Grown later p q t → too_long later ≡ false → Sound later
grown_sound later t p q g e = record {
  numbered = g.numbered;
  fine = g.fine;
  well = g.well;
  short = short_from later (not_from_Decides (too_long later) (long_decided later (numbered later (grown_bounded later t p q g))) e);
}

-- Every edit.

-- a new alias
pub fine_alias : (t : Model) (n s r f : ℕ) → Passed (alias_rows t n s r f) → Fine (Some (fresh (body.Alias r f) s))
fine_alias t n s r f ok = fine_new s (body.Alias r f) ok.0 (and_from _ _ (lt-ltb r 64 (known_low t r ok.1.1.1.0)) (le-leb f (2 ^ 40) (ltb-false (2 ^ 40) f ok.1.0)))

grown_alias : (t : Model) (n s r f : ℕ) → Sound t → Passed (alias_rows t n s r f) → Grown (with_region t n (Some (fresh (body.Alias r f) s))) n r t
grown_alias t n s r f h ok = alias_grows t h n s r f ok.1.1.1.1.0 ok.0 (known_low t r ok.1.1.1.0) (ltb-false (2 ^ 40) f ok.1.0)

pub one_alias : (t : Model) (n s r f : ℕ) → Sound t → Passed (alias_rows t n s r f) → OneNew (with_region t n (Some (fresh (body.Alias r f) s))) n
one_alias t n s r f h ok = grown_new _ t n r h.short (grown_alias t n s r f h ok)

-- a new attachment
pub low_attachment : (t : Model) (n p o : ℕ) (i : ℤ) → Passed (attach_rows t n p o) → Low (record { child = n; parent = p; offset = o; priority = i })
low_attachment t n p o i ok = record {
  some = let ne = eqb-false n 0 ok.1.1.1.0 in ⊎_elim (λ lt. absurd (ne (omega arith))) (λ le. le) (cases_lt n 1);
  child = known_low t n ok.1.0;
  parent = known_low t p ok.1.1.0;
  offset = ltb-false (2 ^ 40) o ok.0;
}

grown_attachment : (t : Model) (n p o : ℕ) (i : ℤ) → Sound t → Passed (attach_rows t n p o) → Grown (with_order t (inserted (record { child = n; parent = p; offset = o; priority = i }) t.attachments)) p n t
grown_attachment t n p o i h ok = attach_grows t h (record { child = n; parent = p; offset = o; priority = i }) (low_attachment t n p o i ok) ok.1.1.1.1.1.0

pub one_attachment : (t : Model) (n p o : ℕ) (i : ℤ) → Sound t → Passed (attach_rows t n p o) → OneNew (with_order t (inserted (record { child = n; parent = p; offset = o; priority = i }) t.attachments)) p
one_attachment t n p o i h ok = grown_new _ t p n h.short (grown_attachment t n p o i h ok)

pub decided_alias : (b : Backing) (t : Model) (n s r f : ℕ) → Sound t → Passed (alias_rows t n s r f) → Decided (edited b t (Alias n s r f))
unfolding edited
decided_alias b t n s r f h ok = grown_decided _ t n r h.short (grown_alias t n s r f h ok)

pub decided_attach : (b : Backing) (t : Model) (n p o : ℕ) (i : ℤ) → Sound t → Passed (attach_rows t n p o) → Decided (edited b t (Attach n p o i))
unfolding edited
decided_attach b t n p o i h ok = grown_decided _ t p n h.short (grown_attachment t n p o i h ok)

same_region : (t : Model) (n : ℕ) (x : Option Region) → Sound t → Fine x → ((s : ℕ) → In s (targets_of x) → Edge t n s) → Sound (with_region t n x)
same_region t n x h fine sub = record {
  numbered = length-set t.regions n x ∙ h.numbered;
  fine = All-set Fine t.regions n x fine h.fine;
  well = h.well;
  short = short_older t (with_region t n x) (no_new_edge t n x sub) h.short;
}

same_order : (t : Model) (cs : List Attachment) → Sound t → Well cs → ((r s : ℕ) → Holds r s cs → Holds r s t.attachments) → Sound (with_order t cs)
same_order t cs h well sub = record {
  numbered = h.numbered;
  fine = h.fine;
  well = well;
  short = short_older t (with_order t cs) (λ r s. order_edge t cs r s (λ k. holds (sub r s k))) h.short;
}

pub sound_edit : (b : Backing) (t : Model) (e : Edit) → Passed (edit_rows b t e) → Sound t → Sound (edited b t e)
unfolding edited
sound_edit b t (Container n s) ok h = same_region t n _ h (fine_new s body.Container ok.0 refl) (λ q i. absurd i)
sound_edit b t (Leaf n s d) ok h = same_region t n _ h (fine_new s (body.Leaf d b.kind) ok.0 refl) (λ q i. absurd i)
sound_edit b t (Alias n s r f) ok h = grown_sound _ t n r (grown_alias t n s r f h (first_passed (alias_rows t n s r f) (path_rows (edited b t (Alias n s r f))) ok)) ok.1.1.1.1.1.1.0
sound_edit b t (Attach n p o i) ok h = grown_sound _ t p n (grown_attachment t n p o i h (first_passed (attach_rows t n p o) (path_rows (edited b t (Attach n p o i))) ok)) ok.1.1.1.1.1.1.1.0
sound_edit b t (Detach n) ok h =
    let p = λ (c : Attachment). not (eqb c.child n) in
    same_order t (without_child n t.attachments) h (well_kept p t.attachments h.well) (λ r s. kept_held p r s t.attachments)
sound_edit b t (Move n o) ok h =
    let cs = t.attachments in
    let p = λ (c : Attachment). not (eqb c.child n) in
    let rest = without_child n cs in
    same_order t (again_at o (attachment_of n cs) rest) h
    (well_again n o (attachment_of n cs) rest (ltb-false (2 ^ 40) o ok.0) (its Low n cs h.well.low) (has_without n cs) (well_kept p cs h.well))
    (λ r s k. again_held r s o cs rest (attachment_of n cs) (attachment_held n cs) (λ x y. kept_held p x y cs) k)
sound_edit b t (Switch n v) ok h =
    same_region t n _ h (fine_switched v (region_at t n) (fine_anywhere t.regions n h.fine)) (λ q i. in_targets t n q (region_at t n) refl (subst (In q) (targets_switched v (region_at t n)) i))
sound_edit b t (Protect n v) ok h =
    same_region t n _ h (fine_marked v (region_at t n) (fine_anywhere t.regions n h.fine)) (λ q i. in_targets t n q (region_at t n) refl (subst (In q) (targets_marked v (region_at t n)) i))
sound_edit b t (Remove n) ok h = same_region t n _ h refl (λ q i. absurd i)
