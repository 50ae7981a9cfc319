-- No leaf of a run is longer than its device, so that no place lies past its device's bytes.
use Rattle.std.proofs.Common.{◌≡◌, ℕ, zero, suc, ◌+◌, ◌-◌, ◌<◌, ◌≤◌, Bool, false, ◌&&◌, ◌||◌, ltb, leb, List, [], ◌∷◌, length, get_or, replicate, Some, None, Option, refl, ap, ◌∙◌, arith}
use Rattle.std.specs.List.{AllByRecursion}
use Rattle.std.proofs.ByRecursion.{All-set}
use Rattle.std.proofs.lemmas.Bool.{cond-true, cond_both, and_parts, or_parts, ltb-true, ltb-false, le-leb}
use Rattle.model.specs.declared.faults.Fault.{Fault}
use Rattle.model.specs.declared.places.Place.{Place}
use Rattle.tree.specs.declared.regions.Body.{Body}
use Rattle.tree.specs.declared.regions.Body.TheVariants as body
use Rattle.tree.specs.declared.regions.Region.{Region}
use Rattle.tree.specs.declared.regions.Attachment.{Attachment}
use Rattle.tree.specs.Model.{Model, region_at, subregions}
use Rattle.tree.specs.Search.{Searcher, or_else, first_of, in_body, in_region, look, search}
use Rattle.edits.specs.declared.edit.Edit.{Edit}
use Rattle.edits.specs.declared.edit.Edit.TheVariants.{Container, Leaf, Alias, Attach, Detach, Move, Switch, Protect, Remove}
use Rattle.edits.specs.declared.edit.Backing.{Backing}
use Rattle.edits.specs.Edited.{switched, marked, edited}
use Rattle.edits.specs.Rows.{edit_rows}
use Rattle.edits.proofs.Sound.{Passed, passes}
use Rattle.machine.specs.Calls.{Devices, Call, begin, edit, commit, drop_draft, read, write, question, clear_log, Opening, Machine}
use Rattle.machine.specs.Refusals.{no_backing, backing_at, backing, or_committed, draft_of, rows, refusal}
use Rattle.machine.specs.Machine.{opened, with_draft, ends_draft, refused_next, next_by, next, run, after}
use Rattle.machine.proofs.Written.{shape_stored}

-- the length of every device, by its number
abbrev pub Lengths : Type 0
Lengths = ℕ → ℕ

abbrev BodyFits : Lengths → Body → ℕ → Type 0
BodyFits len body.Container s = Unit {0}
BodyFits len (body.Leaf d k) s = s ≤ len d
BodyFits len (body.Alias r f) s = Unit {0}

abbrev Fits : Lengths → Option Region → Type 0
Fits len None = Unit {0}
Fits len (Some g) = BodyFits len g.body g.size

-- no leaf of the tree is longer than its device
abbrev pub Backed : Lengths → Model → Type 0
Backed len t = AllByRecursion (Fits len) t.regions

abbrev pub BackedDraft : Lengths → Option Model → Type 0
BackedDraft len None = Unit {0}
BackedDraft len (Some t) = Backed len t

-- the place is within its device's bytes
abbrev pub Inside : Lengths → Option Place → Type 0
Inside len None = Unit {0}
Inside len (Some p) = p.offset < len p.device

all_at : {X : Type 0} (P : X → Type 0) (d : X) → P d → (xs : List X) (n : ℕ) → AllByRecursion P xs → P (get_or xs n d)
all_at P d h [] n a = h
all_at P d h (x ∷ xs) zero a = a.0
all_at P d h (x ∷ xs) (suc n) a = all_at P d h xs n a.1

module _ (len : Lengths) where
  fits_at : (t : Model) (n : ℕ) → Backed len t → Fits len (region_at t n)
  fits_at t n c = all_at (Fits len) None tt t.regions n c

  -- The search.

  or_else_inside : (p q : Option Place) → Inside len p → Inside len q → Inside len (or_else p q)
  or_else_inside None q h k = k
  or_else_inside (Some p) q h k = h

  first_inside : (down : Searcher) → ((r a : ℕ) (m : Bool) → Inside len (down r a m)) → (cs : List Attachment) (a : ℕ) (m : Bool) → Inside len (first_of down cs a m)
  first_inside down h [] a m = tt
  first_inside down h (c ∷ cs) a m =
      cond_both (leb c.offset a) (or_else (down c.child (a - c.offset) m) (first_of down cs a m)) (first_of down cs a m) (Inside len)
      (λ _. or_else_inside (down c.child (a - c.offset) m) (first_of down cs a m) (h c.child (a - c.offset) m) (first_inside down h cs a m))
      (λ _. first_inside down h cs a m)

  body_inside : (down : Searcher) (t : Model) → ((r a : ℕ) (m : Bool) → Inside len (down r a m)) → (b : Body) (s r a : ℕ) (m : Bool) → BodyFits len b s → a < s → Inside len (in_body down t b r a m)
  body_inside down t h body.Container s r a m fits lt = first_inside down h (subregions t r) a m
  body_inside down t h (body.Leaf d k) s r a m fits lt = omega arith
  body_inside down t h (body.Alias q f) s r a m fits lt = h q (a + f) m

  region_inside : (down : Searcher) (t : Model) → ((r a : ℕ) (m : Bool) → Inside len (down r a m)) → (g : Option Region) (r a : ℕ) (m : Bool) → Fits len g → Inside len (in_region down t g r a m)
  region_inside down t h None r a m fits = tt
  region_inside down t h (Some g) r a m fits =
      cond_both (g.on && ltb a g.size) (in_body down t g.body r a (m || g.protected)) None (Inside len)
      (λ e. body_inside down t h g.body g.size r a (m || g.protected) fits (ltb-true a g.size (and_parts g.on _ e).1))
      (λ _. tt)

  look_inside : (n : ℕ) (t : Model) → Backed len t → (r a : ℕ) (m : Bool) → Inside len (look n t r a m)
  look_inside zero t c r a m = tt
  look_inside (suc n) t c r a m = region_inside (look n t) t (look_inside n t c) (region_at t r) r a m (fits_at t r c)

  pub search_inside : (t : Model) (a : ℕ) → Backed len t → Inside len (search t a)
  unfolding search
  search_inside t a c = look_inside 9 t c 0 a false

  -- The edits.

  fits_switched : (b : Bool) (g : Option Region) → Fits len g → Fits len (switched b g)
  fits_switched b None h = tt
  fits_switched b (Some g) h = h

  fits_marked : (b : Bool) (g : Option Region) → Fits len g → Fits len (marked b g)
  fits_marked b None h = tt
  fits_marked b (Some g) h = h

  -- row 9: the device has a number that a bank gives, and no fewer bytes than the leaf
  leaf_fits : (ds : Devices) (d s : ℕ) → length (ds d).bytes ≡ len d → (ltb 65535 d || ltb (backing_at ds d).length s) ≡ false → s ≤ len d
  leaf_fits ds d s is ok =
      let parts = or_parts (ltb 65535 d) (ltb (backing_at ds d).length s) ok in
      let low : d ≤ 65535 = ltb-false 65535 d parts.0 in
      let some : s ≤ (backing_at ds d).length = ltb-false (backing_at ds d).length s parts.1 in
      let same : (backing_at ds d).length ≡ length (ds d).bytes = ap (λ (b : Backing). b.length) (cond-true (leb d 65535) (record { kind = (ds d).kind; length = length (ds d).bytes }) no_backing (le-leb d 65535 low)) in
      omega arith

  backed_edit : (ds : Devices) (t : Model) (e : Edit) → ((d : ℕ) → length (ds d).bytes ≡ len d) → Passed (edit_rows (backing ds e) t e) → Backed len t → Backed len (edited (backing ds e) t e)
  unfolding edited
  backed_edit ds t (Container n s) is ok c = All-set (Fits len) t.regions n _ tt c
  backed_edit ds t (Leaf n s d) is ok c = All-set (Fits len) t.regions n _ (leaf_fits ds d s (is d) ok.1.1.1.0) c
  backed_edit ds t (Alias n s r f) is ok c = All-set (Fits len) t.regions n _ tt c
  backed_edit ds t (Attach n p o i) is ok c = c
  backed_edit ds t (Detach n) is ok c = c
  backed_edit ds t (Move n o) is ok c = c
  backed_edit ds t (Switch n v) is ok c = All-set (Fits len) t.regions n _ (fits_switched v (region_at t n) (fits_at t n c)) c
  backed_edit ds t (Protect n v) is ok c = All-set (Fits len) t.regions n _ (fits_marked v (region_at t n) (fits_at t n c)) c
  backed_edit ds t (Remove n) is ok c = All-set (Fits len) t.regions n None tt c

  backed_either : (t : Model) (d : Option Model) → Backed len t → BackedDraft len d → Backed len (or_committed t d)
  backed_either t None c h = c
  backed_either t (Some d) c h = h

-- The runs: lengths stay, and no leaf of either tree is longer than its device.
pub record Stands (len : Lengths) (m : Machine) : Type 0 where
  pub lengths : (d : ℕ) → length (m.devices d).bytes ≡ len d
  pub tree : Backed len m.committed
  pub draft : BackedDraft len m.draft

module _ (len : Lengths) (o : Opening) (m : Machine) (s : Stands len m) where
  stands_refused : (f : Fault) → Stands len (refused_next m f)
  stands_refused f = cond_both (ends_draft f) (with_draft m None) m (Stands len) (λ _. record { lengths = s.lengths; tree = s.tree; draft = tt }) (λ _. s)

  backed_now : Backed len (draft_of m)
  backed_now = backed_either len m.committed m.draft s.tree s.draft

  stands_by : (c : Call) (q : Option Fault) → refusal o m c ≡ q → Stands len (next_by m c q)
  unfolding refusal rows
  stands_by c (Some f) e = stands_refused f
  stands_by begin None e = record { lengths = s.lengths; tree = s.tree; draft = s.tree }
  stands_by (edit d) None e = record { lengths = s.lengths; tree = s.tree; draft = backed_edit len m.devices (draft_of m) d s.lengths (passes (rows o m (edit d)) e).1 backed_now }
  stands_by (commit room) None e = record { lengths = s.lengths; tree = backed_now; draft = tt }
  stands_by drop_draft None e = record { lengths = s.lengths; tree = s.tree; draft = tt }
  stands_by (read a n) None e = s
  stands_by (write a bs) None e = record { lengths = λ d. (shape_stored (search m.committed) m.devices a bs).lengths d ∙ s.lengths d; tree = s.tree; draft = s.draft }
  stands_by question None e = s
  stands_by clear_log None e = s

  stands_step : (c : Call) → Stands len (next o m c)
  unfolding next
  stands_step c = stands_by c (refusal o m c) refl

stands_run : (len : Lengths) (o : Opening) (m : Machine) (cs : List Call) → Stands len m → Stands len (run o m cs)
stands_run len o m [] s = s
stands_run len o m (c ∷ cs) s = stands_run len o (next o m c) cs (stands_step len o m s c)

none_fit : (len : Lengths) (n : ℕ) → AllByRecursion (Fits len) (replicate n None)
none_fit len zero = tt
none_fit len (suc n) = (tt, none_fit len n)

abbrev pub first_lengths : Opening → Lengths
first_lengths o d = length (o.devices d).bytes

pub stands_after : (o : Opening) (cs : List Call) → Stands (first_lengths o) (after o cs)
stands_after o cs = stands_run (first_lengths o) o (opened o) cs (record { lengths = λ d. refl; tree = (tt, none_fit (first_lengths o) 63); draft = tt })
