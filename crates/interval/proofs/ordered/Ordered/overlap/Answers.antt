use Rattle.std.proofs.Common.{ltb, rules}
use Rattle.std.proofs.lemmas.List.Sums.{prefix_len-le-length}
use Rattle.interval.proofs.Spans.{ended_le}
use Rattle.interval.proofs.ordered.Ordered.overlap.Goals as goal

pub returns-clause-order : goal.returns-clause-order
returns-clause-order g c = let h = ended_le c.args.span.now.start c.args.span.now.end c.requires c.args.self.now.live.now in search rules

pub returns-clause-within : goal.returns-clause-within
returns-clause-within g c = let k = prefix_len-le-length (λ s. ltb s.start c.args.span.now.end) c.args.self.now.live.now in search rules
