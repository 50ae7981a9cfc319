-- The tree that a space begins with.
use Rattle.std.specs.Prelude.{ℕ, ◌^◌, cond, ◌&&◌, Ok, Err, Result, nat_le}
use Rattle.model.specs.declared.faults.Fault.{Fault}
use Rattle.model.specs.declared.faults.Fault.TheVariants.{BadSize}
use Rattle.tree.specs.declared.tree.Tree.{Tree}
use Rattle.tree.specs.Model.{Model, model_of, root_alone}

-- the root alone, if its size is 1 to 2^40
abbrev pub begun : ℕ → Result Model Fault
begun size = cond (nat_le 1 size && nat_le size (2 ^ 40)) (Ok (root_alone size)) (Err BadSize)

-- the answer of a call that makes a tree, with the tree as a plain value
abbrev pub told : Result Tree Fault → Result Model Fault
told (Ok t) = Ok (model_of t.table)
told (Err f) = Err f
