use Rattle.std.proofs.Common.{◌≡◌, false, sym, ap, ◌∙◌, add-zero, lit<}
use Rattle.tree.specs.Model.{model_of}
use Rattle.tree.specs.Search.{search}
use Rattle.tree.proofs.Agree.{agrees}
use Rattle.tree.proofs.Sighted.{sees_first}
use Rattle.tree.proofs.tree.Tree.find.Goals as goal

pub returns : goal.returns
unfolding search
returns c =
    let is : c.probe.result.label ≡ search (model_of c.args.self.now.table) c.args.address = sees_first _ _ _ _ (lit< tt) c.probe.ensures.sees ∙ ap (search (model_of c.args.self.now.table)) (add-zero c.args.address) in
    let both = agrees (model_of c.args.self.now.table) c.args.self.now.short in
    record {
      is = is;
      finds = (both 9 0 c.args.address false _ (lit< tt)).1 (sym is);
      agrees = both;
    }
