use Rattle.std.proofs.Common.{◌+◌, length, get_or, sym, ap, ◌∙◌, subst, arith, ◌-◌, take, drop}
use Rattle.std.proofs.lemmas.List.{take_rest}
use Rattle.lexis.specs.Lang.{Got, Chosen, agree}
use Rattle.lexis.proofs.Picks.{passed_none, passed_more, passed_one, passed_all, agree_right}
use Rattle.lexis.proofs.keyword.keyword_at.Goals as goal

pub loop-k-init : goal.loop-k-init
loop-k-init g c = passed_none _ _ _ g.met.K.Keyword.lawful

pub slice_bounds-result-count : goal.slice_bounds-result-count
slice_bounds-result-count g c = omega (arith, c.common-n.ensures, agree_right c.word-word.result.now c.rest-line.result.now)

pub slice_bounds-result-start : goal.slice_bounds-result-start
slice_bounds-result-start g c = omega (arith, c.common-n.ensures, agree_right c.word-word.result.now c.rest-line.result.now)

pub returns-then-n-word : goal.returns-then-n-word
returns-then-n-word g c =
    let line = c.rest-line.result.now in
    let rest = take (length line - c.common-n.result) (drop c.common-n.result line) in
    subst (λ x. Got (Chosen g.K.Keyword.word) x c.k-item.result rest) c.rest-line.ensures (passed_one _ _ _ g.met.K.Keyword.lawful c.k-item.result c.common-n.result _
    (c.common-n.ensures ∙ ap (λ w. agree w c.rest-line.result.now) c.word-word.ensures)
    (omega (arith, c.if-n-word.true, ap length c.word-word.ensures))
    (take_rest c.rest-line.result.now c.common-n.result))

pub loop-k-preserved : goal.loop-k-preserved
loop-k-preserved g c =
    passed_more _ _ _ _ _ _ c.common-n.result c.k-item.result
    (omega (arith, c.loop-k-test.true, ap length c.all-k-items.ensures))
    (c.k-item.is ∙ ap (λ l. get_or l c.loop-k.k-index c.k-item.result) c.all-k-items.ensures)
    (c.common-n.ensures ∙ ap (λ w. agree w c.rest-line.result.now) c.word-word.ensures)
    (λ f. c.if-n-word.false (f ∙ ap length (sym c.word-word.ensures)))
    c.loop-k.invariant
    (c.max-best.ensures ∙ omega arith)

pub overflow_add-result : goal.overflow_add-result
overflow_add-result g c = let p = c.loop-k.invariant.near in omega (arith, p.1, agree_right (g.K.Keyword.word p.0) c.rest-line.result.now, c.args.reader.now.room, c.column.ensures, ap length c.rest-line.ensures)

pub returns : goal.returns
returns g c =
    rw c.rest-line.ensures at (passed_all _ _ _ g.met.K.Keyword.lawful _ c.loop-k.k-index c.loop-k.best _
    (omega (arith, c.loop-k-test.false, ap length c.all-k-items.ensures))
    c.loop-k.invariant (ap (λ k. k + c.loop-k.best) c.column.ensures))
