use Rattle.std.proofs.Common.{◌≡◌, ℕ, ◌+◌, false, None, arith}
use Rattle.tree.specs.Model.{model_of}
use Rattle.tree.specs.Search.{search}
use Rattle.tree.specs.Sights.{SeesAt, SeesIn}
use Rattle.tree.proofs.Agree.{ruled}
use Rattle.tree.proofs.Sighted.{sees_nothing}
use Rattle.tree.proofs.Steps.{search_beyond}
use Rattle.tree.proofs.tree.Tree.probe.Goals as goal

pub returns-then-address-root_size : goal.returns-then-address-root_size
returns-then-address-root_size c =
    let none : (i : ℕ) → search (model_of c.args.self.now.table) (c.args.address + i) ≡ None = λ i. search_beyond _ _ (omega arith) in
    let sees : SeesAt (model_of c.args.self.now.table) c.args.address c.args.limit c.nothing.result = sees_nothing _ _ _ _ c.nothing.ensures none in
    record {
      sees = sees;
      ruled = ruled (model_of c.args.self.now.table) c.args.self.now.short _ _ sees.same;
      beyond = λ past. c.nothing.ensures;
    }

pub returns : goal.returns
unfolding search
returns c =
    let sees : SeesIn 9 (model_of c.args.self.now.table) 0 c.args.address false c.args.limit c.seek.result = c.seek.ensures in
    record {
      sees = sees;
      ruled = ruled (model_of c.args.self.now.table) c.args.self.now.short _ _ sees.same;
      beyond = λ past. absurd (omega arith);
    }
