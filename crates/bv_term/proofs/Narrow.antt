-- Remainders by powers of two.
use Rattle.std.proofs.Common.{◌≡◌, ℕ, ◌+◌, ◌-◌, ◌%◌, ◌^◌, ◌≤◌, arith, subst}
use Rattle.std.proofs.Math.Pow.{mod-mod-pow, pow_mono}

-- a shorter mask after the widest
pub mod_narrow : (n w : ℕ) → w ≤ 128 → n % 2 ^ 128 % 2 ^ w ≡ n % 2 ^ w
mod_narrow n w le =
    let e : (128 - w) + w ≡ 128 = omega arith in
    let P : ℕ → Type 0 = λ m. n % 2 ^ m % 2 ^ w ≡ n % 2 ^ w in
    subst P e (mod-mod-pow n (128 - w) w)

pub power_le : (i j : ℕ) → i ≤ j → 2 ^ i ≤ 2 ^ j
power_le i j le = pow_mono le
