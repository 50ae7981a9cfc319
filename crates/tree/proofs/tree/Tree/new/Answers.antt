use Rattle.std.proofs.Common.{◌≤◌, ℕ, ◌∷◌, replicate, Some, None, sym, subst}
use Rattle.tree.specs.Model.{Model}
use Rattle.tree.specs.Paths.{Path}
use Rattle.tree.proofs.RootAlone.{root_short}
use Rattle.tree.proofs.tree.Tree.new.Goals as goal

pub invariant_of-result-2 : goal.invariant_of-result-2
invariant_of-result-2 c =
    let root = sym c.new.ensures in
    let alone = sym c.new-2.ensures in
    record { short = subst (λ (m : Model). (r s n : ℕ) → Path m r n s → n ≤ 8) (λ i. record { regions = Some (root i) ∷ replicate 63 None; attachments = alone i }) (root_short c.args.root_size) }
