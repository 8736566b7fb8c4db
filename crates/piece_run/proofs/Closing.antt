-- What closing files leaves of the counts, set by set.
use Rattle.std.proofs.Common.{◌≡◌, ℕ, ◌+◌, ◌<◌, ◌≤◌, ◌-◌, ◌^◌, arith}
use Rattle.driver_files.specs.Counts.{RoseBy}

-- ---- counters

pub up_none : (n : ℕ) → RoseBy 0 n n
up_none n = omega arith

pub up_then : (m n a b c : ℕ) → RoseBy m a b → RoseBy n b c → RoseBy (m + n) a c
up_then m n a b c h k = omega (arith, h, k)

pub up_most : (n a b : ℕ) → RoseBy n a b → b ≤ a + n
up_most n a b h = omega (arith, h)

pub up_least : (n a b : ℕ) → RoseBy n a b → a ≤ b
up_least n a b h = omega (arith, h)

pub up_just : (n a b : ℕ) → RoseBy n a b → b < 2 ^ 64 - 1 → b ≡ a + n
up_just n a b h k = omega (arith, h, k)
