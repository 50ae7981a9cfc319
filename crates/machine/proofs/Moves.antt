-- The calls of a space, held against the machine: from what a call finds and leaves at the state to its promises.
use Rattle.std.proofs.Common.{◌≡◌, ℕ, zero, suc, ◌<◌, ◌≤◌, Bool, true, false, cond, not, ltb, List, [], ◌∷◌, ◌++◌, length, is_some, Some, None, Option, Result, sym, refl, ap, ◌∙◌, subst, ⊎_elim, arith}
use mathlib.Core.Path.{fun_ext}
use Rattle.std.specs.List.{AllByRecursion}
use Rattle.std.proofs.lemmas.Bool.{cond-true, cond-false, cases_Bool, lt-ltb, le-ltb}
use Rattle.interval.specs.Stretches.{rising, at}
use Rattle.model.specs.declared.faults.Fault.{Fault}
use Rattle.model.specs.declared.faults.Fault.TheVariants.{DraftStands, NoDraft, MapFull, ListenerFull, ListShort}
use Rattle.model.specs.declared.places.Place.{Place}
use Rattle.model.specs.Places.{moved}
use Rattle.model.specs.Rows.{Row, first_applying, told, unless}
use Rattle.tree.specs.declared.regions.Body.TheVariants as body
use Rattle.tree.specs.Model.{Model, region_at, fresh}
use Rattle.tree.specs.Search.{search}
use Rattle.edits.specs.declared.edit.Edit.{Edit}
use Rattle.edits.specs.declared.edit.Edit.TheVariants.{Container, Leaf, Alias, Attach, Detach, Move, Switch, Protect, Remove}
use Rattle.edits.specs.declared.edit.Backing.{Backing}
use Rattle.edits.specs.Edited.{edited}
use Rattle.edits.specs.Rows.{edit_rows, edit_refusal, edit_result}
use Rattle.flat.specs.Maps.{map_of}
use Rattle.diff.specs.ChangeLists.{changes, counts}
use Rattle.diff.specs.Laws.{of_kinds}
use Rattle.access.specs.Accesses.{address_rows, access_rows, access_refusal, bytes_from, stored_from}
use Rattle.machine.specs.Calls.{Devices, Call, begin, edit, commit, drop_draft, read, write, question, clear_log, Answer, refused, changed, given, done, Opening, Machine}
use Rattle.machine.specs.Refusals.{backing, or_committed, rows, refusal}
use Rattle.machine.specs.Machine.{with_draft, ends_draft, accepted_answer, accepted_next, answer_by, next_by, answer, next, after}
use Rattle.machine.specs.Contract.{State, Leads, Keeps}
use Rattle.machine.specs.Told.{told_done, told_bytes}
use Rattle.machine.proofs.Keeping.{after_more, suffices}
use Rattle.machine.proofs.Trees as trees

-- the machine that stands where the space stands
unfoldable pub machine_of : State → Machine
machine_of s = record { committed = s.tree; draft = s.draft; devices = s.devices }

-- the state with another draft, and with other devices
abbrev pub drafted : State → Option Model → State
drafted s d = record { tree = s.tree; draft = d; map = s.map; devices = s.devices; held = s.held; kinds = s.kinds; capacity = s.capacity }

abbrev pub stored : State → Devices → State
stored s ds = record { tree = s.tree; draft = s.draft; map = s.map; devices = ds; held = s.held; kinds = s.kinds; capacity = s.capacity }

-- What a run says of the state to which it leads.
module _ (o : Opening) (cs : List Call) (s : State) (led : Leads o cs s) where
  pub led_machine : machine_of s ≡ after o cs
  unfolding machine_of
  led_machine = λ i. record { committed = led.tree i; draft = led.draft i; devices = led.devices i }

  pub led_map : s.map ≡ map_of s.tree
  led_map = led.map ∙ ap map_of (sym led.tree)

  pub led_held : s.held ≡ of_kinds s.kinds s.map
  led_held = let k = sym led.kinds in let m = sym led.map in led.held ∙ (λ i. of_kinds (k i) (m i))

  pub led_rises : rising 0 s.map ≡ true
  led_rises = ap (rising 0) led.map ∙ trees.committed_rises o cs led.accepted

  pub led_draft_rises : (t : Model) → s.draft ≡ Some t → rising 0 (map_of t) ≡ true
  led_draft_rises t d = trees.draft_rises o cs led.accepted t (sym led.draft ∙ d)

  -- the map is the search of the committed tree
  pub led_shows : at moved s.map ≡ search s.tree
  led_shows = ap (at moved) led.map ∙ fun_ext (λ a. (trees.committed_map o cs led.accepted).maximal.labels a) ∙ ap search (sym led.tree)

  -- the root is as it was opened
  pub led_root : region_at s.tree 0 ≡ Some (fresh body.Container o.size)
  led_root = ap (λ t. region_at t 0) led.tree ∙ trees.root_stays o cs led.accepted

  pub led_draft_root : (t : Model) → s.draft ≡ Some t → region_at t 0 ≡ Some (fresh body.Container o.size)
  led_draft_root t d = trees.draft_root_stays o cs led.accepted t (sym led.draft ∙ d)

-- Rows.

-- what holds of the faults of all rows holds of the one that decides
deciding : (P : Fault → Type 0) (rs : List Row) (f : Fault) → AllByRecursion (λ (r : Row). P r.1) rs → first_applying rs ≡ Some f → P f
deciding P [] f a e = absurd (let z : ◌≡◌ {A = ℕ} 0 1 = cc in omega arith)
deciding P (r ∷ rs) f a e = ⊎_elim
    (λ y. let is : r.1 ≡ f = inside (sym (cond-true r.0 (Some r.1) (first_applying rs) y) ∙ e) in subst P is a.0)
    (λ n. deciding P rs f a.1 (sym (cond-false r.0 (Some r.1) (first_applying rs) n) ∙ e))
    (cases_Bool r.0)
  where
    inside : ◌≡◌ {A = Option Fault} (Some r.1) (Some f) → r.1 ≡ f
    inside e = cc

-- no row of an edit ends the draft, and none of an access does
abbrev Spares : Row → Type 0
Spares r = ends_draft r.1 ≡ false

edits_spare : (b : Backing) (t : Model) (e : Edit) → AllByRecursion Spares (edit_rows b t e)
edits_spare b t (Container n s) = (refl, (refl, (refl, tt)))
edits_spare b t (Leaf n s d) = (refl, (refl, (refl, (refl, tt))))
edits_spare b t (Alias n s r f) = (refl, (refl, (refl, (refl, (refl, (refl, (refl, tt)))))))
edits_spare b t (Attach n p o i) = (refl, (refl, (refl, (refl, (refl, (refl, (refl, (refl, tt))))))))
edits_spare b t (Detach n) = (refl, (refl, (refl, tt)))
edits_spare b t (Move n o) = (refl, (refl, (refl, (refl, tt))))
edits_spare b t (Switch n v) = (refl, (refl, tt))
edits_spare b t (Protect n v) = (refl, (refl, tt))
edits_spare b t (Remove n) = (refl, (refl, (refl, tt)))

edit_spares : (b : Backing) (t : Model) (e : Edit) (f : Fault) → edit_refusal b t e ≡ Some f → ends_draft f ≡ false
unfolding edit_refusal
edit_spares b t e f is = deciding (λ x. ends_draft x ≡ false) (edit_rows b t e) f (edits_spare b t e) is

addresses_spare : (w : Bool) (shows : ℕ → Option Place) (a n : ℕ) → AllByRecursion Spares (address_rows w shows a n)
unfolding address_rows
addresses_spare w shows a zero = tt
addresses_spare w shows a (suc n) = (refl, (refl, addresses_spare w shows (suc a) n))

access_spares : (w : Bool) (shows : ℕ → Option Place) (a n : ℕ) (f : Fault) → access_refusal w shows a n ≡ Some f → ends_draft f ≡ false
unfolding access_refusal
access_spares w shows a n f is = deciding (λ x. ends_draft x ≡ false) (access_rows w shows a n) f (refl, addresses_spare w shows a n) is

-- what an accepted commit of the tree t makes of the state
pub record Committed (s : State) (t : Model) (later : State) : Type 0 where
  pub tree : later.tree ≡ t
  pub draft : later.draft ≡ None
  pub map : later.map ≡ map_of t
  pub devices : later.devices ≡ s.devices
  pub held : later.held ≡ of_kinds s.kinds (map_of t)
  pub kinds : later.kinds ≡ s.kinds
  pub capacity : later.capacity ≡ s.capacity

module _ (o : Opening) (cs : List Call) (s : State) (led : Leads o cs s) where
  -- Any call.

  -- it answers and steps as the machine does at the state
  pub arrives : (c : Call) (r : Answer) (later : State) → next o (machine_of s) c ≡ machine_of later → later.map ≡ map_of later.tree → later.held ≡ of_kinds later.kinds (map_of later.tree) → later.kinds ≡ s.kinds → later.capacity ≡ s.capacity → r ≡ answer o (machine_of s) c → Keeps o cs c r later
  unfolding machine_of
  arrives c r later e mp hd kn cp is =
      let there : after o (cs ++ c ∷ []) ≡ machine_of later = after_more o cs c ∙ ap (λ m. next o m c) (sym (led_machine o cs s led)) ∙ e in
      let tree : later.tree ≡ (after o (cs ++ c ∷ [])).committed = ap (λ (m : Machine). m.committed) (sym there) in
      let kinds : later.kinds ≡ o.kinds = kn ∙ led.kinds in
      suffices o cs c r later
      (record {
        accepted = led.accepted;
        tree = tree;
        draft = ap (λ (m : Machine). m.draft) (sym there);
        devices = ap (λ (m : Machine). m.devices) (sym there);
        map = mp ∙ ap map_of tree;
        held = hd ∙ (λ i. of_kinds (kinds i) (map_of (tree i)));
        kinds = kinds;
        capacity = cp ∙ led.capacity;
      })
      (is ∙ ap (λ m. answer o m c) (led_machine o cs s led))

  -- it leaves all but the draft and the devices
  stays : (c : Call) (r : Answer) (d : Option Model) (ds : Devices) → next o (machine_of s) c ≡ record { committed = s.tree; draft = d; devices = ds } → r ≡ answer o (machine_of s) c → Keeps o cs c r (stored (drafted s d) ds)
  unfolding machine_of
  stays c r d ds e is = arrives c r (stored (drafted s d) ds) e (led_map o cs s led) (led_held o cs s led ∙ ap (of_kinds s.kinds) (led_map o cs s led)) refl refl is

  -- it leaves all but the draft
  pub moves : (c : Call) (r : Answer) (d : Option Model) → next o (machine_of s) c ≡ with_draft (machine_of s) d → r ≡ answer o (machine_of s) c → Keeps o cs c r (drafted s d)
  unfolding machine_of
  moves c r d e is = stays c r d s.devices e is

  pub refuses : (c : Call) (f : Fault) → refusal o (machine_of s) c ≡ Some f → ends_draft f ≡ false → Keeps o cs c (refused f) s
  unfolding machine_of answer next
  refuses c f e spares =
      moves c (refused f) s.draft (ap (next_by (machine_of s) c) e ∙ cond-false (ends_draft f) (with_draft (machine_of s) None) (machine_of s) spares) (sym (ap (answer_by (machine_of s) c) e))

  pub refuses_and_ends : (c : Call) (f : Fault) → refusal o (machine_of s) c ≡ Some f → ends_draft f ≡ true → Keeps o cs c (refused f) (drafted s None)
  unfolding answer next
  refuses_and_ends c f e ends =
      moves c (refused f) None (ap (next_by (machine_of s) c) e ∙ cond-true (ends_draft f) (with_draft (machine_of s) None) (machine_of s) ends) (sym (ap (answer_by (machine_of s) c) e))

  pub accepts : (c : Call) (d : Option Model) → refusal o (machine_of s) c ≡ None → accepted_next (machine_of s) c ≡ with_draft (machine_of s) d → Keeps o cs c (accepted_answer (machine_of s) c) (drafted s d)
  unfolding answer next
  accepts c d e is = moves c (accepted_answer (machine_of s) c) d (ap (next_by (machine_of s) c) e ∙ is) (sym (ap (answer_by (machine_of s) c) e))

  -- Begin and drop.

  pub begin_refused : (f : Fault) → f ≡ DraftStands → is_some s.draft ≡ true → Keeps o cs begin (refused f) s
  unfolding machine_of refusal rows
  begin_refused f is e = subst (λ x. Keeps o cs begin (refused x) s) (sym is) (refuses begin DraftStands (cond-true (is_some s.draft) (Some DraftStands) None e) refl)

  pub begin_accepted : is_some s.draft ≡ false → Keeps o cs begin done (drafted s (Some s.tree))
  unfolding machine_of refusal rows
  begin_accepted e = accepts begin (Some s.tree) (cond-false (is_some s.draft) (Some DraftStands) None e) refl

  pub drop_refused : (f : Fault) → f ≡ NoDraft → is_some s.draft ≡ false → Keeps o cs drop_draft (refused f) s
  unfolding machine_of refusal rows
  drop_refused f is e = subst (λ x. Keeps o cs drop_draft (refused x) s) (sym is) (refuses drop_draft NoDraft (cond-true (not (is_some s.draft)) (Some NoDraft) None (ap not e)) refl)

  pub drop_accepted : is_some s.draft ≡ true → Keeps o cs drop_draft done (drafted s None)
  unfolding machine_of refusal rows
  drop_accepted e = accepts drop_draft None (cond-false (not (is_some s.draft)) (Some NoDraft) None (ap not e)) refl

  -- Edits.

  pub edit_none : (e : Edit) (f : Fault) → f ≡ NoDraft → is_some s.draft ≡ false → Keeps o cs (edit e) (refused f) s
  unfolding machine_of refusal rows
  edit_none e f is d = subst (λ x. Keeps o cs (edit e) (refused x) s) (sym is) (refuses (edit e) NoDraft (cond-true (not (is_some s.draft)) (Some NoDraft) _ (ap not d)) refl)

  edit_at : (e : Edit) (t : Model) → s.draft ≡ Some t → refusal o (machine_of s) (edit e) ≡ edit_refusal (backing s.devices e) t e
  unfolding machine_of refusal rows edit_refusal
  edit_at e t d = ap (λ q. first_applying ((not (is_some q), NoDraft) ∷ edit_rows (backing s.devices e) (or_committed s.tree q) e)) d

  pub edit_kept : (e : Edit) (t later : Model) (r : Result (Unit {0}) Fault) → s.draft ≡ Some t → r ≡ told (edit_refusal (backing s.devices e) t e) → later ≡ edit_result (backing s.devices e) t e → Keeps o cs (edit e) (told_done r) (drafted s (Some later))
  unfolding machine_of
  edit_kept e t later r d answered left = by_refusal (edit_refusal (backing s.devices e) t e) refl answered left
    where
      b : Backing
      b = backing s.devices e

      by_refusal : (q : Option Fault) → edit_refusal b t e ≡ q → r ≡ told q → later ≡ unless q (edited b t e) t → Keeps o cs (edit e) (told_done r) (drafted s (Some later))
      by_refusal None is answered left =
          subst (λ x. Keeps o cs (edit e) (told_done x) (drafted s (Some later))) (sym answered)
          (accepts (edit e) (Some later) (edit_at e t d ∙ is)
          (ap (λ q. with_draft (machine_of s) (Some (edited b (or_committed s.tree q) e))) d ∙ ap (λ u. with_draft (machine_of s) (Some u)) (sym left)))
      by_refusal (Some f) is answered left =
          subst (λ x. Keeps o cs (edit e) (told_done x) (drafted s (Some later))) (sym answered)
          (subst (λ q. Keeps o cs (edit e) (refused f) (drafted s q)) (d ∙ ap Some (sym left)) (refuses (edit e) f (edit_at e t d ∙ is) (edit_spares b t e f is)))

  -- Commits.

  pub commit_none : (room : ℕ) (f : Fault) → f ≡ NoDraft → is_some s.draft ≡ false → Keeps o cs (commit room) (refused f) s
  unfolding machine_of refusal rows
  commit_none room f is e = subst (λ x. Keeps o cs (commit room) (refused x) s) (sym is) (refuses (commit room) NoDraft (cond-true (not (is_some s.draft)) (Some NoDraft) _ (ap not e)) refl)

  module _ (room : ℕ) (t : Model) (d : s.draft ≡ Some t) where
    abbrev last_row : Option Fault
    last_row = cond (ltb room (length (changes s.map (map_of t)))) (Some ListShort) None

    abbrev last_rows : Option Fault
    last_rows = cond (ltb s.capacity (length (of_kinds s.kinds (map_of t)))) (Some ListenerFull) last_row

    commit_at : refusal o (machine_of s) (commit room) ≡ cond (ltb 256 (length (map_of t))) (Some MapFull) last_rows
    unfolding machine_of refusal rows
    commit_at =
        let old = sym (led_map o cs s led) in
        let k = sym led.kinds in
        let c = sym led.capacity in
        (λ i. first_applying (
        (not (is_some (d i)), NoDraft) ∷
        (ltb 256 (length (map_of (or_committed s.tree (d i)))), MapFull) ∷
        (ltb o.capacity (length (of_kinds o.kinds (map_of (or_committed s.tree (d i))))), ListenerFull) ∷
        (ltb room (length (changes (map_of s.tree) (map_of (or_committed s.tree (d i))))), ListShort) ∷ []))
        ∙ (λ i. cond (ltb 256 (length (map_of t))) (Some MapFull) (cond (ltb (c i) (length (of_kinds (k i) (map_of t)))) (Some ListenerFull) (cond (ltb room (length (changes (old i) (map_of t)))) (Some ListShort) None)))

    ended : (g f : Fault) → f ≡ g → ends_draft g ≡ true → refusal o (machine_of s) (commit room) ≡ Some g → Keeps o cs (commit room) (refused f) (drafted s None)
    ended g f is ends e = subst (λ x. Keeps o cs (commit room) (refused x) (drafted s None)) (sym is) (refuses_and_ends (commit room) g e ends)

    pub commit_map_full : (f : Fault) → f ≡ MapFull → 256 < length (map_of t) → Keeps o cs (commit room) (refused f) (drafted s None)
    commit_map_full f is h = ended MapFull f is refl (commit_at ∙ cond-true _ _ _ (lt-ltb 256 (length (map_of t)) h))

    module _ (few : length (map_of t) ≤ 256) where
      past_map : refusal o (machine_of s) (commit room) ≡ last_rows
      past_map = commit_at ∙ cond-false _ _ _ (le-ltb 256 (length (map_of t)) few)

      pub commit_listener_full : (f : Fault) → f ≡ ListenerFull → s.capacity < length (of_kinds s.kinds (map_of t)) → Keeps o cs (commit room) (refused f) (drafted s None)
      commit_listener_full f is h = ended ListenerFull f is refl (past_map ∙ cond-true _ _ _ (lt-ltb s.capacity _ h))

      module _ (fits : length (of_kinds s.kinds (map_of t)) ≤ s.capacity) where
        past_listener : refusal o (machine_of s) (commit room) ≡ last_row
        past_listener = past_map ∙ cond-false _ _ _ (le-ltb s.capacity _ fits)

        pub commit_list_short : (f : Fault) → f ≡ ListShort → room < length (changes s.map (map_of t)) → Keeps o cs (commit room) (refused f) (drafted s None)
        commit_list_short f is h = ended ListShort f is refl (past_listener ∙ cond-true _ _ _ (lt-ltb room _ h))

        pub commit_accepted : (r : Answer) (later : State) → length (changes s.map (map_of t)) ≤ room → Committed s t later → r ≡ changed (changes s.map (map_of t)) (counts s.map (map_of t)) → Keeps o cs (commit room) r later
        unfolding machine_of answer next
        commit_accepted r later short h is =
            let none : refusal o (machine_of s) (commit room) ≡ None = past_listener ∙ cond-false _ _ _ (le-ltb room _ short) in
            let tree = sym h.tree in
            let draft = sym h.draft in
            let devices = sym h.devices in
            let kinds = sym h.kinds in
            let old = led_map o cs s led in
            let at-draft = sym d in
            arrives (commit room) r later
            (ap (next_by (machine_of s) (commit room)) none ∙ ap (λ q. record { committed = or_committed s.tree q; draft = None; devices = s.devices }) d ∙ (λ i. record { committed = tree i; draft = draft i; devices = devices i }))
            (h.map ∙ ap map_of tree)
            (h.held ∙ (λ i. of_kinds (kinds i) (map_of (tree i))))
            h.kinds
            h.capacity
            (is
            ∙ (λ i. changed (changes (old i) (map_of t)) (counts (old i) (map_of t)))
            ∙ (λ i. changed (changes (map_of s.tree) (map_of (or_committed s.tree (at-draft i)))) (counts (map_of s.tree) (map_of (or_committed s.tree (at-draft i)))))
            ∙ sym (ap (answer_by (machine_of s) (commit room)) none))

  -- Accesses.

  pub read_kept : (a n : ℕ) (r : Result (Unit {0}) Fault) (was now : List ℕ) → r ≡ told (access_refusal false (at moved s.map) a n) → now ≡ unless (access_refusal false (at moved s.map) a n) (bytes_from (at moved s.map) s.devices a n) was → Keeps o cs (read a n) (told_bytes r now) s
  unfolding machine_of refusal rows access_refusal
  read_kept a n r was now answered left =
      let shows = led_shows o cs s led in
      by_refusal (access_refusal false (search s.tree) a n) refl
      (answered ∙ ap (λ f. told (access_refusal false f a n)) shows)
      (left ∙ ap (λ f. unless (access_refusal false f a n) (bytes_from f s.devices a n) was) shows)
    where
      by_refusal : (q : Option Fault) → access_refusal false (search s.tree) a n ≡ q → r ≡ told q → now ≡ unless q (bytes_from (search s.tree) s.devices a n) was → Keeps o cs (read a n) (told_bytes r now) s
      by_refusal None is answered left =
          subst (λ x. Keeps o cs (read a n) (told_bytes x now) s) (sym answered)
          (subst (λ x. Keeps o cs (read a n) (given x) s) (sym left) (accepts (read a n) s.draft is refl))
      by_refusal (Some f) is answered left =
          subst (λ x. Keeps o cs (read a n) (told_bytes x now) s) (sym answered) (refuses (read a n) f is (access_spares false (search s.tree) a n f is))

  pub write_kept : (a : ℕ) (bs : List ℕ) (r : Result (Unit {0}) Fault) (later : Devices) → r ≡ told (access_refusal true (at moved s.map) a (length bs)) → later ≡ unless (access_refusal true (at moved s.map) a (length bs)) (stored_from (at moved s.map) s.devices a bs) s.devices → Keeps o cs (write a bs) (told_done r) (stored s later)
  unfolding machine_of refusal rows access_refusal answer next
  write_kept a bs r later answered left =
      let shows = led_shows o cs s led in
      by_refusal (access_refusal true (search s.tree) a (length bs)) refl
      (answered ∙ ap (λ f. told (access_refusal true f a (length bs))) shows)
      (left ∙ ap (λ f. unless (access_refusal true f a (length bs)) (stored_from f s.devices a bs) s.devices) shows)
    where
      by_refusal : (q : Option Fault) → access_refusal true (search s.tree) a (length bs) ≡ q → r ≡ told q → later ≡ unless q (stored_from (search s.tree) s.devices a bs) s.devices → Keeps o cs (write a bs) (told_done r) (stored s later)
      by_refusal None is answered left =
          subst (λ x. Keeps o cs (write a bs) (told_done x) (stored s later)) (sym answered)
          (stays (write a bs) done s.draft later
          (ap (next_by (machine_of s) (write a bs)) is ∙ ap (λ ds. record { committed = s.tree; draft = s.draft; devices = ds }) (sym left))
          (sym (ap (answer_by (machine_of s) (write a bs)) is)))
      by_refusal (Some f) is answered left =
          subst (λ x. Keeps o cs (write a bs) (told_done x) (stored s later)) (sym answered)
          (subst (λ ds. Keeps o cs (write a bs) (refused f) (stored s ds)) (sym left) (refuses (write a bs) f is (access_spares true (search s.tree) a (length bs) f is)))

  -- Questions, and the log.

  pub question_kept : Keeps o cs question done s
  unfolding machine_of refusal rows
  question_kept = accepts question s.draft refl refl

  pub clear_log_kept : Keeps o cs clear_log done s
  unfolding machine_of refusal rows
  clear_log_kept = accepts clear_log s.draft refl refl
