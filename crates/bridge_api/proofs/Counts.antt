-- A count that goes up so many times goes up by their number, and stops at the greatest one.
use Rattle.std.proofs.Common.{◌≡◌, ℕ, zero, suc, ◌+◌, ◌-◌, ◌^◌, ◌<◌, ◌∙◌, arith}
use Rattle.std.specs.Prelude.{min}
use Rattle.bridge_api.specs.Drops.{next_count, raised}

pub raised_is : (n c : ℕ) → c < 2 ^ 64 → raised n c ≡ min (c + n) (2 ^ 64 - 1)
raised_is zero c low = omega arith
raised_is (suc n) c low = raised_is n (next_count c) (omega arith) ∙ omega arith
