use Rattle.lexis.proofs.Picks.{Passed}
use Rattle.lexis.proofs.keyword.keyword_at.Given as goal

abbrev pub invariant-loop-k : goal.invariant-loop-k
invariant-loop-k g l = Passed g.K.Keyword.word g.K.Keyword.all l.line l.k-index l.best
