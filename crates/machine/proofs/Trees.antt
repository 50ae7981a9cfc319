-- What holds of the trees of all runs.
use Rattle.std.proofs.Common.{◌≡◌, ℕ, zero, suc, ◌^◌, ◌≤◌, Bool, true, false, cond, eqb, ltb, List, [], ◌∷◌, replicate, is_some, Some, None, Option, sym, refl, ap, ◌∙◌, subst}
use Rattle.std.specs.List.{AllByRecursion}
use Rattle.std.proofs.lemmas.List.{get_or-set_other}
use Rattle.std.proofs.lemmas.Bool.{both_ways, or_parts, ltb-false, eqb-false}
use Rattle.interval.specs.Stretches.{rising}
use Rattle.model.specs.declared.faults.Fault.{Fault}
use Rattle.tree.specs.declared.regions.Body.TheVariants as body
use Rattle.tree.specs.declared.regions.Region.{Region}
use Rattle.tree.specs.Bounds.{bad_size}
use Rattle.tree.specs.Model.{Model, region_at, root_alone, fresh}
use Rattle.tree.specs.Search.{search, size_of, root_size}
use Rattle.tree.specs.Sights.{Agrees}
use Rattle.tree.proofs.Agree as agree
use Rattle.tree.proofs.RootAlone.{root_short}
use Rattle.edits.specs.declared.edit.Edit.{Edit}
use Rattle.edits.specs.declared.edit.Edit.TheVariants.{Container, Leaf, Alias, Attach, Detach, Move, Switch, Protect, Remove}
use Rattle.edits.specs.declared.edit.Backing.{Backing}
use Rattle.edits.specs.Edited.{with_region, edited}
use Rattle.edits.specs.Rows.{defined, edit_rows}
use Rattle.edits.proofs.Limits.{Fine, from_fine}
use Rattle.edits.proofs.Sound.{Sound, Passed, passes, fine_new, sound_edit}
use Rattle.edits.proofs.Walks.{short_lawful}
use Rattle.flat.specs.Laws.{OnlyMap}
use Rattle.flat.specs.Maps.{map_of}
use Rattle.flat.proofs.Flattening.{map_only, map_ruled}
use Rattle.flat.proofs.Leaves.{all_lie}
use Rattle.machine.specs.Calls.{Call, begin, edit, commit, drop_draft, read, write, question, clear_log, Opening, Machine}
use Rattle.machine.specs.Refusals.{backing, or_committed, draft_of, rows, refusal}
use Rattle.machine.specs.Machine.{opened, with_draft, ends_draft, next_by, next, run, after}
use Rattle.machine.specs.Contract.{LawfulDraft, Mapped, RunsAgree}

-- a tree whose root is as it was opened
pub record Rooted (size : ℕ) (t : Model) : Type 0 where
  pub sound : Sound t
  pub root : region_at t 0 ≡ Some (fresh body.Container size)

-- The root alone.

fine_nones : (n : ℕ) → AllByRecursion Fine (replicate n None)
fine_nones zero = tt
fine_nones (suc n) = (refl, fine_nones n)

pub alone_rooted : (size : ℕ) → bad_size size ≡ false → Rooted size (root_alone size)
alone_rooted size ok = record {
  sound = record {
    numbered = refl;
    fine = (fine_new size body.Container ok refl, fine_nones 63);
    well = record { low = tt; single = refl; ranked = refl };
    short = root_short size;
  };
  root = refl;
}

-- An accepted edit leaves the root.

module _ (t : Model) (g : Region) (root : region_at t 0 ≡ Some g) (n : ℕ) (x : Option Region) where
  elsewhere : (0 ≡ n → ⊥) → region_at (with_region t n x) 0 ≡ Some g
  elsewhere ne = get_or-set_other t.regions n 0 x None ne ∙ root

  at_undefined : defined t n ≡ false → region_at (with_region t n x) 0 ≡ Some g
  at_undefined none = elsewhere (λ e. both_ways (defined t n) none (ap (defined t) (sym e) ∙ ap is_some root))

  at_other : eqb n 0 ≡ false → region_at (with_region t n x) 0 ≡ Some g
  at_other ne = elsewhere (λ e. eqb-false n 0 ne (sym e))

root_edit : (b : Backing) (t : Model) (e : Edit) (g : Region) → Passed (edit_rows b t e) → region_at t 0 ≡ Some g → region_at (edited b t e) 0 ≡ Some g
unfolding edited
root_edit b t (Container n s) g ok root = at_undefined t g root n _ ok.1.1.0
root_edit b t (Leaf n s d) g ok root = at_undefined t g root n _ ok.1.1.0
root_edit b t (Alias n s r f) g ok root = at_undefined t g root n _ ok.1.1.1.1.0
root_edit b t (Attach n p o i) g ok root = root
root_edit b t (Detach n) g ok root = root
root_edit b t (Move n o) g ok root = root
root_edit b t (Switch n v) g ok root = at_other t g root n _ ok.1.0
root_edit b t (Protect n v) g ok root = at_other t g root n _ ok.1.0
root_edit b t (Remove n) g ok root = at_other t g root n _ ok.1.0

pub rooted_edit : (size : ℕ) (b : Backing) (t : Model) (e : Edit) → Passed (edit_rows b t e) → Rooted size t → Rooted size (edited b t e)
rooted_edit size b t e ok h = record { sound = sound_edit b t e ok h.sound; root = root_edit b t e (fresh body.Container size) ok h.root }

-- Steps and runs.

abbrev pub RootedDraft : ℕ → Option Model → Type 0
RootedDraft size None = Unit {0}
RootedDraft size (Some t) = Rooted size t

pub record Trees (size : ℕ) (m : Machine) : Type 0 where
  pub committed : Rooted size m.committed
  pub draft : RootedDraft size m.draft

or_rooted : (size : ℕ) (t : Model) (d : Option Model) → Rooted size t → RootedDraft size d → Rooted size (or_committed t d)
or_rooted size t None h k = h
or_rooted size t (Some d) h k = k

pub rooted_draft_of : (size : ℕ) (m : Machine) → Trees size m → Rooted size (draft_of m)
rooted_draft_of size m h = or_rooted size m.committed m.draft h.committed h.draft

trees_by : (o : Opening) (size : ℕ) (m : Machine) (c : Call) (q : Option Fault) → refusal o m c ≡ q → Trees size m → Trees size (next_by m c q)
unfolding refusal rows
trees_by o size m c (Some f) is h = by_end (ends_draft f)
  where
    by_end : (b : Bool) → Trees size (cond b (with_draft m None) m)
    by_end true = record { committed = h.committed; draft = tt }
    by_end false = h
trees_by o size m begin None is h = record { committed = h.committed; draft = h.committed }
trees_by o size m (edit e) None is h =
    let ok = passes (rows o m (edit e)) is in
    record { committed = h.committed; draft = rooted_edit size (backing m.devices e) (draft_of m) e ok.1 (rooted_draft_of size m h) }
trees_by o size m (commit room) None is h = record { committed = rooted_draft_of size m h; draft = tt }
trees_by o size m drop_draft None is h = record { committed = h.committed; draft = tt }
trees_by o size m (read a n) None is h = h
trees_by o size m (write a bs) None is h = record { committed = h.committed; draft = h.draft }
trees_by o size m question None is h = h
trees_by o size m clear_log None is h = h

pub next_trees : (o : Opening) (size : ℕ) (m : Machine) (c : Call) → Trees size m → Trees size (next o m c)
unfolding next
next_trees o size m c h = trees_by o size m c (refusal o m c) refl h

run_trees : (o : Opening) (size : ℕ) (m : Machine) (cs : List Call) → Trees size m → Trees size (run o m cs)
run_trees o size m [] h = h
run_trees o size m (c ∷ cs) h = run_trees o size (next o m c) cs (next_trees o size m c h)

pub opened_trees : (o : Opening) → bad_size o.size ≡ false → Trees o.size (opened o)
opened_trees o ok = record { committed = alone_rooted o.size ok; draft = tt }

pub after_trees : (o : Opening) (cs : List Call) → bad_size o.size ≡ false → Trees o.size (after o cs)
after_trees o cs ok = run_trees o o.size (opened o) cs (opened_trees o ok)

-- What follows for one such tree.

pub size_small : (size : ℕ) → bad_size size ≡ false → size ≤ 2 ^ 40
size_small size ok = ltb-false (2 ^ 40) size (or_parts (eqb size 0) (ltb (2 ^ 40) size) ok).1

module _ (size : ℕ) (ok : bad_size size ≡ false) (t : Model) (h : Rooted size t) where
  pub tree_small : root_size t ≤ 2 ^ 40
  tree_small = subst (λ n. n ≤ 2 ^ 40) (sym (ap size_of h.root)) (size_small size ok)

  pub tree_agrees : Agrees t
  tree_agrees = agree.agrees t h.sound.short

  pub tree_map : OnlyMap (search t) (map_of t)
  tree_map = map_only t tree_small

  pub tree_rises : rising 0 (map_of t) ≡ true
  tree_rises = tree_map.maximal.order

  pub tree_mapped : Mapped t (map_of t)
  tree_mapped =
      let rule = map_ruled t tree_small tree_agrees in
      record { lawful = short_lawful t h.sound.short; agrees = tree_agrees; ruled = rule; lie = all_lie t (map_of t) (from_fine t.regions h.sound.fine) tree_rises rule }

-- What follows for the trees of a run.

module _ (o : Opening) (cs : List Call) (ok : bad_size o.size ≡ false) where
  pub committed_rooted : Rooted o.size (after o cs).committed
  committed_rooted = (after_trees o cs ok).committed

  pub draft_rooted : (t : Model) → (after o cs).draft ≡ Some t → Rooted o.size t
  draft_rooted t is = subst (RootedDraft o.size) is (after_trees o cs ok).draft

  -- the root stays as it was opened
  pub root_stays : region_at (after o cs).committed 0 ≡ Some (fresh body.Container o.size)
  root_stays = committed_rooted.root

  pub draft_root_stays : (t : Model) → (after o cs).draft ≡ Some t → region_at t 0 ≡ Some (fresh body.Container o.size)
  draft_root_stays t is = (draft_rooted t is).root

  pub committed_small : root_size (after o cs).committed ≤ 2 ^ 40
  committed_small = tree_small o.size ok (after o cs).committed committed_rooted

  pub committed_map : OnlyMap (search (after o cs).committed) (map_of (after o cs).committed)
  committed_map = tree_map o.size ok (after o cs).committed committed_rooted

  pub committed_rises : rising 0 (map_of (after o cs).committed) ≡ true
  committed_rises = tree_rises o.size ok (after o cs).committed committed_rooted

  pub committed_mapped : Mapped (after o cs).committed (map_of (after o cs).committed)
  committed_mapped = tree_mapped o.size ok (after o cs).committed committed_rooted

  pub draft_rises : (t : Model) → (after o cs).draft ≡ Some t → rising 0 (map_of t) ≡ true
  draft_rises t is = tree_rises o.size ok t (draft_rooted t is)

  pub draft_lawful : LawfulDraft (after o cs).draft
  draft_lawful = by_draft (after o cs).draft (after_trees o cs ok).draft
    where
      by_draft : (d : Option Model) → RootedDraft o.size d → LawfulDraft d
      by_draft None h = tt
      by_draft (Some t) h = short_lawful t h.sound.short

pub runs_agree : (o : Opening) → bad_size o.size ≡ false → RunsAgree o
runs_agree o ok cs = tree_agrees o.size ok (after o cs).committed (committed_rooted o cs ok)
