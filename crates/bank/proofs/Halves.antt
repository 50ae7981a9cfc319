-- The devices of a pair.
use Rattle.std.proofs.Common.{◌≡◌, ℕ, ◌+◌, ◌*◌, ◌/◌, ◌%◌, arith}
use Rattle.bank.specs.Devices.{Device, paired, Shares}

pub paired_shares : (f g : ℕ → Device) → Shares f g (paired f g)
paired_shares f g = record { even = even; odd = odd }
  where
    even : (n : ℕ) → paired f g (2 * n) ≡ f n
    even n =
        let half : 2 * n / 2 ≡ n = omega arith in
        let rest : 2 * n % 2 ≡ 0 = omega arith in
        rw (rest, half)

    odd : (n : ℕ) → paired f g (2 * n + 1) ≡ g n
    odd n =
        let half : (2 * n + 1) / 2 ≡ n = omega arith in
        let rest : (2 * n + 1) % 2 ≡ 1 = omega arith in
        rw (rest, half)
