-- A step as the machine makes it keeps every promise.
use Rattle.std.proofs.Common.{◌≡◌, List, [], ◌∷◌, ◌++◌, sym, refl, ap, ◌∙◌, subst}
use Rattle.model.specs.declared.changes.Change.{Change}
use Rattle.flat.specs.Maps.{map_of}
use Rattle.diff.specs.declared.counts.Counts.{Counts}
use Rattle.machine.specs.Calls.{Call, Answer, changed, Opening, Machine}
use Rattle.machine.specs.Machine.{answer, next, run, after, opened}
use Rattle.machine.specs.Contract.{State, Leads, Least, LawfulDraft, Mapped, Suffices}
use Rattle.machine.proofs.Trees.{after_trees, committed_mapped, draft_lawful, runs_agree}
use Rattle.machine.proofs.Runs.{step_least, replayed, heard}
use Rattle.machine.proofs.Reading.{reads}

run_append : (o : Opening) (m : Machine) (cs ds : List Call) → run o m (cs ++ ds) ≡ run o (run o m cs) ds
run_append o m [] ds = refl
run_append o m (c ∷ cs) ds = run_append o (next o m c) cs ds

-- one call more
pub after_more : (o : Opening) (cs : List Call) (c : Call) → after o (cs ++ c ∷ []) ≡ next o (after o cs) c
after_more o cs c = run_append o (opened o) cs (c ∷ [])

module _ (o : Opening) (cs : List Call) (c : Call) (r : Answer) (s : State) (led : Leads o (cs ++ c ∷ []) s) (is : r ≡ answer o (after o cs) c) where
  least : (list : List Change) (counts : Counts) → r ≡ changed list counts → Least list counts (map_of (after o cs).committed) s.map
  least list counts e =
      let now : map_of (next o (after o cs) c).committed ≡ s.map = ap (λ (m : Machine). map_of m.committed) (sym (after_more o cs c)) ∙ sym led.map in
      subst (Least list counts (map_of (after o cs).committed)) now (step_least o o.size led.accepted (after o cs) (after_trees o cs led.accepted) c list counts (sym is ∙ e))

  mapped : Mapped s.tree s.map
  mapped =
      let t = (after o (cs ++ c ∷ [])).committed in
      subst (λ x. Mapped x s.map) (sym led.tree) (subst (Mapped t) (sym led.map) (committed_mapped o (cs ++ c ∷ []) led.accepted))

-- a step as the machine makes it is all that a call's own proof has to show
pub suffices : Suffices
suffices o cs c r s led is =
    let agree = runs_agree o led.accepted in
    record {
      leads = led;
      answers = is;
      replays = replayed o (cs ++ c ∷ []) led.accepted;
      heard = heard o (cs ++ c ∷ []) led.accepted;
      least = least o cs c r s led is;
      reads = λ a n bytes e f. reads o cs a n bytes agree (ap (answer o (after o cs)) (sym e) ∙ sym is ∙ f);
      mapped = mapped o cs c r s led is;
      drafted = subst LawfulDraft (sym led.draft) (draft_lawful o (cs ++ c ∷ []) led.accepted);
      agree = agree;
    }
