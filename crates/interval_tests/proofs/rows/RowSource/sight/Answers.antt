use Rattle.std.proofs.Common.{sym, arith}
use Rattle.interval_tests.proofs.Sighted.{sighted}
use Rattle.interval_tests.proofs.rows.RowSource.sight.Goals as goal

pub returns : goal.returns
returns c = record {
  within = omega arith;
  some = λ h. omega arith;
  same = λ i lt. sighted c.args.self.now.stretch.now c.args.address i c.advance-label.result (omega arith) (sym c.if-not-covers.ensures) c.advance-label.ensures;
}
