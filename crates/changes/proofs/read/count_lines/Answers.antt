use Rattle.std.proofs.Common.{arith}
use Rattle.changes.proofs.Tables.{sofar_more, stopped, line_shorter, turned_line, turned_bad}
use Rattle.changes.proofs.read.count_lines.Goals as goal

pub returns-in_err-ok : goal.returns-in_err-ok
returns-in_err-ok c =
    rw c.from_residual.ensures
    (λ ds s. let b = turned_bad _ _ _ c.in-Some.ensures.steps c.in_err-ok.ensures.value in b.0 (stopped _ _ _ c.loop-line.invariant.0 b.1 ds s).1)

pub loop-line-preserved : goal.loop-line-preserved
loop-line-preserved c =
    let g = turned_line _ _ _ _ c.in-Some.ensures.steps c.in_ok-ok.ensures.value in
    (sofar_more _ _ _ _ _ c.loop-line.invariant.0 g, omega (arith, line_shorter _ _ _ g, c.loop-line.invariant.1))
