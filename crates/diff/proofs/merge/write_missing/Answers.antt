use Rattle.std.proofs.Common.{◌++◌, map, length, take, drop, set, sym, ap, ◌∙◌, arith}
use Rattle.std.proofs.lemmas.List.{set-get_or, take_all}
use Rattle.model.specs.Changes.{entry}
use Rattle.diff.specs.Merge.{left_over}
use Rattle.diff.specs.ChangeLists.{ranges, missing}
use Rattle.diff.proofs.Writing.{drop_head, drop_none, written_more}
use Rattle.diff.proofs.merge.write_missing.Goals as goal

pub loop-record-preserved : goal.loop-record-preserved
loop-record-preserved c =
    let all = missing (ranges c.args.xs.now) (ranges c.args.ys.now) in
    let f = entry c.args.action in
    let n = c.loop-record.record-index in
    let x = c.in-Some.range in
    let i = c.loop-record.invariant in
    let h = drop_head n all x (left_over c.next.new.self) (sym i.1 ∙ c.in-Some.ensures.steps) in (
      omega (arith, h.0),
      sym h.2,
      (λ j. set (i.2 j) n ((c.entry.ensures ∙ ap f (sym h.1)) j))
          ∙ written_more f all c.args.list.now n x h.0 (omega (arith, h.0, c.requires)),
    )

pub returns-in_default : goal.returns-in_default
returns-in_default c =
    let all = missing (ranges c.args.xs.now) (ranges c.args.ys.now) in
    let f = entry c.args.action in
    let i = c.loop-record.invariant in
    let done = drop_none _ all i.0 (sym i.1 ∙ c.in_default.ensures.steps.0) in
    set-get_or _ _ _ ∙ i.2 ∙ ap (λ k. map f (take k all) ++ drop k c.args.list.now) done ∙ ap (λ l. map f l ++ drop (length all) c.args.list.now) (take_all (length all) all (omega arith))
