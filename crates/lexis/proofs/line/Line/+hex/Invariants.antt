use Rattle.lexis.proofs.line.Line.+hex.Given as goal

abbrev pub decreases-hex : goal.decreases-hex
decreases-hex l = l.n
