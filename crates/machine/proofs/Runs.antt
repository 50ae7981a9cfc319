-- What the change lists of all runs are good for.
use Rattle.std.proofs.Common.{◌≡◌, ℕ, zero, suc, Bool, true, false, cond, ◌&&◌, ltb, List, [], ◌∷◌, Some, None, Option, sym, refl, ap, ◌∙◌, subst, arith}
use Rattle.std.proofs.lemmas.List.Elements.{filter-append}
use Rattle.interval.specs.Stretches.{rising}
use Rattle.sweep.specs.Maps.{address_before, stretches}
use Rattle.model.specs.declared.changes.Change.{Change}
use Rattle.model.specs.declared.faults.Fault.{Fault}
use Rattle.model.specs.declared.kinds.Kind.{Kind}
use Rattle.model.specs.declared.places.Place.{Place}
use Rattle.model.specs.Places.{moved, same_place}
use Rattle.tree.specs.Bounds.{bad_size}
use Rattle.tree.specs.Model.{root_alone}
use Rattle.tree.specs.Search.{search, root_size}
use Rattle.flat.specs.Maps.{map_of}
use Rattle.diff.specs.declared.counts.Counts.{Counts}
use Rattle.diff.specs.ChangeLists.{changes, counts as counts_of}
use Rattle.diff.specs.Laws.{Fewest, and_then, carry_out, of_kinds, entries_of_kinds}
use Rattle.model.specs.Changes.{range_of}
use Rattle.diff.proofs.Carrying.{carry_append}
use Rattle.diff.proofs.Fewer.{fewest}
use Rattle.diff.proofs.Members.{rising_distinct}
use Rattle.diff.proofs.Promises.{counted_changes, told_by_kind}
use Rattle.diff.proofs.Rooms as rooms
use Rattle.machine.specs.Calls.{Call, begin, edit, commit, drop_draft, read, write, question, clear_log, changed, Opening, Machine}
use Rattle.machine.specs.Refusals.{draft_of, refusal}
use Rattle.machine.specs.Machine.{opened, with_draft, ends_draft, refused_next, answer_by, next_by, answer, next, run, run_answers, answers}
use Rattle.machine.specs.Lists.{changes_in, all_changes, Replayed, Heard}
use Rattle.machine.specs.Contract.{Least}
use Rattle.machine.proofs.Trees.{Trees, rooted_draft_of, next_trees, opened_trees, tree_rises}

-- The root alone has an empty map.

no_stretches : (f : ℕ → Option Place) → ((a : ℕ) → f a ≡ None) → (a n : ℕ) → stretches moved same_place f a n ≡ []
unfolding stretches
no_stretches f none a zero = refl
no_stretches f none a (suc n) = ap (λ o. address_before moved same_place a o (stretches moved same_place f (suc a) n)) (none a) ∙ no_stretches f none (suc a) n

search_alone : (size a : ℕ) → search (root_alone size) a ≡ None
unfolding search
search_alone size a = either (true && ltb a size)
  where
    either : (b : Bool) → cond {A = Option Place} b None None ≡ None
    either true = refl
    either false = refl

pub map_alone : (size : ℕ) → map_of (root_alone size) ≡ []
unfolding map_of
map_alone size = no_stretches (search (root_alone size)) (search_alone size) 0 (root_size (root_alone size))

pub refused_committed : (m : Machine) (f : Fault) → (refused_next m f).committed ≡ m.committed
refused_committed m f = by_end (ends_draft f)
  where
    by_end : (b : Bool) → (cond b (with_draft m None) m).committed ≡ m.committed
    by_end true = refl
    by_end false = refl

-- the maps of a machine rise
record Rise (m : Machine) : Type 0 where
  committed : rising 0 (map_of m.committed) ≡ true
  draft : rising 0 (map_of (draft_of m)) ≡ true

trees_rise : (size : ℕ) → bad_size size ≡ false → (m : Machine) → Trees size m → Rise m
trees_rise size ok m h = record { committed = tree_rises size ok m.committed h.committed; draft = tree_rises size ok (draft_of m) (rooted_draft_of size m h) }

-- One step: its changes turn the map before into the map after.

carries_by : (m : Machine) (c : Call) (q : Option Fault) → Rise m → carry_out (changes_in (answer_by m c q)) (map_of m.committed) ≡ Some (map_of (next_by m c q).committed)
carries_by m c (Some f) h = ap (λ t. Some (map_of t)) (sym (refused_committed m f))
carries_by m begin None h = refl
carries_by m (edit e) None h = refl
carries_by m (commit room) None h = (rooms.replays 0 0 (map_of m.committed) (map_of (draft_of m)) h.committed h.draft).gives
carries_by m drop_draft None h = refl
carries_by m (read a n) None h = refl
carries_by m (write a bs) None h = refl
carries_by m question None h = refl
carries_by m clear_log None h = refl

step_carries : (o : Opening) (m : Machine) (c : Call) → Rise m → carry_out (changes_in (answer o m c)) (map_of m.committed) ≡ Some (map_of (next o m c).committed)
unfolding answer next
step_carries o m c h = carries_by m c (refusal o m c) h

hears_by : (kinds : Kind → Bool) (m : Machine) (c : Call) (q : Option Fault) → Rise m → carry_out (entries_of_kinds kinds (changes_in (answer_by m c q))) (of_kinds kinds (map_of m.committed)) ≡ Some (of_kinds kinds (map_of (next_by m c q).committed))
hears_by kinds m c (Some f) h = ap (λ t. Some (of_kinds kinds (map_of t))) (sym (refused_committed m f))
hears_by kinds m begin None h = refl
hears_by kinds m (edit e) None h = refl
hears_by kinds m (commit room) None h = (told_by_kind (map_of m.committed) (map_of (draft_of m)) h.committed h.draft kinds).gives
hears_by kinds m drop_draft None h = refl
hears_by kinds m (read a n) None h = refl
hears_by kinds m (write a bs) None h = refl
hears_by kinds m question None h = refl
hears_by kinds m clear_log None h = refl

step_hears : (o : Opening) (m : Machine) (c : Call) → Rise m → carry_out (entries_of_kinds o.kinds (changes_in (answer o m c))) (of_kinds o.kinds (map_of m.committed)) ≡ Some (of_kinds o.kinds (map_of (next o m c).committed))
unfolding answer next
step_hears o m c h = hears_by o.kinds m c (refusal o m c) h

least_by : (m : Machine) (c : Call) (q : Option Fault) (list : List Change) (counts : Counts) → Rise m → answer_by m c q ≡ changed list counts → Least list counts (map_of m.committed) (map_of (next_by m c q).committed)
least_by m c (Some f) list counts h e = absurd (let z : ◌≡◌ {A = ℕ} 0 1 = cc in omega arith)
least_by m begin None list counts h e = absurd (let z : ◌≡◌ {A = ℕ} 0 1 = cc in omega arith)
least_by m (edit x) None list counts h e = absurd (let z : ◌≡◌ {A = ℕ} 0 1 = cc in omega arith)
least_by m (commit room) None list counts h e =
    let old = map_of m.committed in
    let new = map_of (draft_of m) in
    let is : changes old new ≡ list = cc in
    let number : counts_of old new ≡ counts = cc in
    let few : Fewest old new (changes old new) = fewest old new (rising_distinct 0 old h.committed) (rising_distinct 0 new h.draft) in
    subst (λ l. Least l counts old new) is (subst (λ n. Least (changes old new) n old new) number (record { counted = counted_changes old new; fewest = few }))
least_by m drop_draft None list counts h e = absurd (let z : ◌≡◌ {A = ℕ} 0 1 = cc in omega arith)
least_by m (read a n) None list counts h e = absurd (let z : ◌≡◌ {A = ℕ} 0 1 = cc in omega arith)
least_by m (write a bs) None list counts h e = absurd (let z : ◌≡◌ {A = ℕ} 0 1 = cc in omega arith)
least_by m question None list counts h e = absurd (let z : ◌≡◌ {A = ℕ} 0 1 = cc in omega arith)
least_by m clear_log None list counts h e = absurd (let z : ◌≡◌ {A = ℕ} 0 1 = cc in omega arith)

pub step_least : (o : Opening) (size : ℕ) → bad_size size ≡ false → (m : Machine) → Trees size m → (c : Call) (list : List Change) (counts : Counts) → answer o m c ≡ changed list counts → Least list counts (map_of m.committed) (map_of (next o m c).committed)
unfolding answer next
step_least o size ok m h c list counts e = least_by m c (refusal o m c) list counts (trees_rise size ok m h) e

-- All steps of a run.

module _ (o : Opening) (size : ℕ) (ok : bad_size size ≡ false) where
  run_carries : (m : Machine) (cs : List Call) → Trees size m → carry_out (all_changes (run_answers o m cs)) (map_of m.committed) ≡ Some (map_of (run o m cs).committed)
  run_carries m [] h = refl
  run_carries m (c ∷ cs) h =
      let rest = all_changes (run_answers o (next o m c) cs) in
      carry_append (changes_in (answer o m c)) rest (map_of m.committed)
      ∙ ap (λ k. and_then k (carry_out rest)) (step_carries o m c (trees_rise size ok m h))
      ∙ run_carries (next o m c) cs (next_trees o size m c h)

  run_hears : (m : Machine) (cs : List Call) → Trees size m → carry_out (entries_of_kinds o.kinds (all_changes (run_answers o m cs))) (of_kinds o.kinds (map_of m.committed)) ≡ Some (of_kinds o.kinds (map_of (run o m cs).committed))
  run_hears m [] h = refl
  run_hears m (c ∷ cs) h =
      let kinds = o.kinds in
      let rest = all_changes (run_answers o (next o m c) cs) in
      let first = changes_in (answer o m c) in
      ap (λ l. carry_out l (of_kinds kinds (map_of m.committed))) (filter-append (λ e. kinds (range_of e).label.kind) first rest)
      ∙ carry_append (entries_of_kinds kinds first) (entries_of_kinds kinds rest) (of_kinds kinds (map_of m.committed))
      ∙ ap (λ k. and_then k (carry_out (entries_of_kinds kinds rest))) (step_hears o m c (trees_rise size ok m h))
      ∙ run_hears (next o m c) cs (next_trees o size m c h)

pub replayed : (o : Opening) (cs : List Call) → bad_size o.size ≡ false → Replayed o cs
replayed o cs ok = ap (carry_out (all_changes (answers o cs))) (sym (map_alone o.size)) ∙ run_carries o o.size ok (opened o) cs (opened_trees o ok)

pub heard : (o : Opening) (cs : List Call) → bad_size o.size ≡ false → Heard o cs
heard o cs ok =
    ap (λ l. carry_out (entries_of_kinds o.kinds (all_changes (answers o cs))) (of_kinds o.kinds l)) (sym (map_alone o.size))
    ∙ run_hears o o.size ok (opened o) cs (opened_trees o ok)
