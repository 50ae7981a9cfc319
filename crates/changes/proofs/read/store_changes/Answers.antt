use Rattle.std.proofs.Common.{refl, sym, ap, ◌∙◌, arith}
use Rattle.std.specs.Result.{result_ok}
use Rattle.std.proofs.lemmas.List.{set-get_or}
use Rattle.changes.proofs.Tables.{ended, turned_bad, turned_line, sofar_none, sofar_more, stopped, full, stored, as_stored}
use Rattle.changes.proofs.read.store_changes.Goals as goal

pub loop-record-init : goal.loop-record-init
loop-record-init c = (sofar_none _, refl)

pub returns-in_default : goal.returns-in_default
returns-in_default c = λ ds s short.
    let i = c.loop-record.invariant in
    let t = stopped _ _ _ i.0 (ended _ c.in_default.ensures.steps.0) ds s in
    set-get_or _ _ _ ∙ as_stored _ _ ds _ _ i.1 i.0.count t.0

pub returns-in_default-line : goal.returns-in_default-line
returns-in_default-line c = λ ds s short.
    let i = c.loop-record.invariant in
    let none = turned_bad _ _ _ c.in-Some.ensures.steps (ap result_ok (sym c.in_default-line.is)) in
    let t = stopped _ _ _ i.0 none.1 ds s in
    set-get_or _ _ _ ∙ as_stored _ _ ds _ _ i.1 i.0.count t.0

pub loop-record-preserved : goal.loop-record-preserved
loop-record-preserved c =
    let i = c.loop-record.invariant in
    let line = turned_line _ _ _ _ c.in-Some.ensures.steps (ap result_ok (sym c.in-Ok.is)) in
    (sofar_more _ _ _ _ _ i.0 line, stored _ _ _ _ _ i.0.count (omega arith) i.1)

pub returns : goal.returns
returns c = λ ds s short.
    let i = c.loop-record.invariant in
    let t = full _ _ _ i.0 ds s (omega arith) in
    as_stored _ _ ds _ _ i.1 i.0.count t
