use Rattle.std.proofs.Common.{arith}
use Rattle.bank.proofs.Fronts.{array_count, array_long, array_shown, array_small}
use Rattle.bank.proofs.front.Front.copy_of.Goals as goal

pub invariant_of-result : goal.invariant_of-result
invariant_of-result c = record {
  whole = array_long c.args.bytes.now c.copy_from_slice.new.self _ c.min-len.ensures c.copy_from_slice.ensures.after;
  within = omega (arith, c.min-len.ensures);
  small = array_small c.args.bytes.now c.copy_from_slice.new.self _ c.min-len.ensures c.copy_from_slice.ensures.after (λ i. (c.type_inv.bytes i).fits);
}

pub returns-clause-shown : goal.returns-clause-shown
returns-clause-shown c =
    array_shown c.args.bytes.now c.copy_from_slice.new.self _ c.min-len.ensures c.copy_from_slice.ensures.after

pub returns-clause-len : goal.returns-clause-len
returns-clause-len c =
    array_count c.args.bytes.now c.copy_from_slice.new.self _ c.min-len.ensures c.copy_from_slice.ensures.after
