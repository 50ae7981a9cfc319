-- A space just opened stands where the machine starts.
use Rattle.std.proofs.Common.{◌≡◌, ℕ, ◌<◌, true, false, cond, ltb, List, [], ◌∷◌, length, Some, None, sym, ap, ◌∙◌, arith}
use Rattle.std.proofs.lemmas.List.{nil_from_length}
use Rattle.std.proofs.lemmas.Bool.{cond-true, cond-false, ltb-false, lt-ltb}
use Rattle.model.specs.declared.faults.Fault.TheVariants.{BadSize, ListenerInUse}
use Rattle.model.specs.Ranges.{Range}
use Rattle.tree.specs.Bounds.{bad_size}
use Rattle.tree.specs.Model.{root_alone}
use Rattle.edits.proofs.Sound.{passes}
use Rattle.diff.specs.Laws.{of_kinds}
use Rattle.machine.specs.Calls.{Opening}
use Rattle.machine.specs.Refusals.{opening_refusal}
use Rattle.machine.specs.Contract.{State, Leads}
use Rattle.machine.proofs.Runs.{map_alone}

pub open_leads : (o : Opening) (s : State) → bad_size o.size ≡ false → s.tree ≡ root_alone o.size → s.draft ≡ None → s.map ≡ [] → s.devices ≡ o.devices → s.held ≡ [] → s.kinds ≡ o.kinds → s.capacity ≡ o.capacity → Leads o [] s
open_leads o s ok tree draft none devices held kinds capacity = record {
  accepted = ok;
  tree = tree;
  draft = draft;
  devices = devices;
  map = none ∙ sym (map_alone o.size);
  held = held ∙ ap (of_kinds o.kinds) (sym (map_alone o.size));
  kinds = kinds;
  capacity = capacity;
}

-- The rows of an opening.

pub open_bad_size : (size : ℕ) (held : List Range) → bad_size size ≡ true → opening_refusal size held ≡ Some BadSize
open_bad_size size held e = cond-true (bad_size size) (Some BadSize) _ e

pub open_in_use : (size : ℕ) (held : List Range) → bad_size size ≡ false → 0 < length held → opening_refusal size held ≡ Some ListenerInUse
open_in_use size held ok some = cond-false (bad_size size) (Some BadSize) _ ok ∙ cond-true (ltb 0 (length held)) (Some ListenerInUse) None (lt-ltb 0 (length held) some)

pub open_accepted : (size : ℕ) (held : List Range) → bad_size size ≡ false → held ≡ [] → opening_refusal size held ≡ None
open_accepted size held ok none = cond-false (bad_size size) (Some BadSize) _ ok ∙ ap (λ xs. cond (ltb 0 (length xs)) (Some ListenerInUse) None) none

-- what an opening has that is not refused
pub open_passed : (size : ℕ) (held : List Range) → opening_refusal size held ≡ None → (bad_size size ≡ false) × (held ≡ [])
open_passed size held e =
    let ok = passes ((bad_size size, BadSize) ∷ (ltb 0 (length held), ListenerInUse) ∷ []) e in
    let none = ltb-false 0 (length held) ok.1.0 in
    (ok.0, nil_from_length held (omega arith))
