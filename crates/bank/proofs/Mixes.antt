-- Bytes, lists of bytes, and bytes mixed under a mask.
use Rattle.std.proofs.Common.{◌≡◌, ℕ, zero, suc, ◌<◌, List, [], ◌∷◌, ◌++◌, drop, ap, ◌∙◌, mod-eq_of_lt}
use lib.Bits.{bit_and, bit_or}
use Rattle.std.proofs.lemmas.Nat.{and_comm, and_mask, or_comm}
use Rattle.bank.specs.Devices.{masked}
use Rattle.bank.specs.Soundness.{Small}

pub append_small : (xs ys : List ℕ) → Small xs → Small ys → Small (xs ++ ys)
append_small [] ys s t k = t k
append_small (x ∷ xs) ys s t zero = s 0
append_small (x ∷ xs) ys s t (suc k) = append_small xs ys (λ k. s (suc k)) t k

pub drop_small : (n : ℕ) (xs : List ℕ) → Small xs → Small (drop n xs)
drop_small zero xs s k = s k
drop_small (suc n) [] s k = s k
drop_small (suc n) (x ∷ xs) s k = drop_small n xs (λ k. s (suc k)) k

-- a full mask takes the new byte whole, and an empty one leaves the old
pub masked_full : (v b : ℕ) → b < 256 → masked v 255 b ≡ b
masked_full v b h = ap (λ x. bit_or x (bit_and b 255)) (and_comm v 0) ∙ and_mask b 8 ∙ mod-eq_of_lt h

pub masked_none : (v b : ℕ) → v < 256 → masked v 0 b ≡ v
masked_none v b h =
    ap (bit_or (bit_and v 255)) (and_comm b 0) ∙ or_comm (bit_and v 255) 0 ∙ and_mask v 8 ∙ mod-eq_of_lt h
