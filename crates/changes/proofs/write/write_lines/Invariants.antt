use Rattle.changes.proofs.Texts.{Standing}
use Rattle.changes.proofs.write.write_lines.Given as goal

abbrev pub invariant-loop-change : goal.invariant-loop-change
invariant-loop-change l = Standing l.changes l.initial.buffer l.change-index l.at l.buffer
