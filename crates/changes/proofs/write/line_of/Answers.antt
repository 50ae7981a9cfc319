use Rattle.std.proofs.Common.{ap, ◌∙◌, subst, rules}
use Rattle.lexis.proofs.Puts.{adds_then, adds_same, adds_first}
use Rattle.changes.specs.Words.{action_text}
use Rattle.changes.proofs.Texts.{Wide, spelled_line, line_short}
use Rattle.changes.proofs.write.line_of.Goals as goal

pub returns : goal.returns
returns c =
    let wide : Wide c.range-range.result = record { start = search rules; length = search rules; leaf = search rules; device = search rules; offset = search rules } in
    adds_first c.new-line.ensures (line_short c.args.change.now (subst Wide c.range-range.ensures wide))
    (adds_same (spelled_line c.args.change.now c.range-range.result _ _ _ c.range-range.ensures (c.word.ensures ∙ ap action_text c.action.ensures) c.word-2.ensures c.word-3.ensures)
    (adds_then c.put.ensures (adds_then c.put-2.ensures (adds_then c.put-3.ensures (adds_then c.hex.ensures (adds_then c.put-4.ensures (adds_then c.hex-2.ensures
    (adds_then c.put-5.ensures (adds_then (rw c.from.ensures at c.hex-3.ensures) (adds_then c.put-6.ensures (adds_then (rw c.from-2.ensures at c.hex-4.ensures) (adds_then c.put-7.ensures (adds_then c.hex-5.ensures
    (adds_then c.put-8.ensures (adds_then c.put-9.ensures (adds_then c.put-10.ensures (adds_then c.put-11.ensures c.put-12.ensures)))))))))))))))))
