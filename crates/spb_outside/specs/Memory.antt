use Rattle.std.specs.Prelude.{ℕ, ◌+◌, ◌-◌, ◌^◌, List, ◌++◌, drop, min, Bool, ◌&&◌, ◌==◌, nat_eq, nat_lt, length, if◌then◌else◌}
use Rattle.std.specs.List.{list_any}

-- a source or a sink in memory
pub record Memory : Type 0 where
  -- the bytes still to come, or those that were taken
  pub bytes : List ℕ
  -- the numbers of the calls that fail, counted from 1
  pub failing : List ℕ
  -- how many bytes a call moves at most
  pub step : ℕ
  -- how many calls there were, up to 4,294,967,295
  pub calls : ℕ
  -- how many of them failed, up to the greatest u64
  pub faults : ℕ

-- whether the next call fails: its number is listed. None after number 4,294,967,295 does
abbrev pub fails : Memory → Bool
fails m = nat_lt m.calls (2 ^ 32 - 1) && list_any (nat_eq (m.calls + 1)) m.failing

-- no call fails
abbrev pub is_faultless : Memory → Bool
is_faultless m = length m.failing == 0

-- after one more call
abbrev pub called : Memory → Memory
called m =
    record {
      bytes = m.bytes;
      failing = m.failing;
      step = m.step;
      calls = min (m.calls + 1) (2 ^ 32 - 1);
      faults = if fails m then min (m.faults + 1) (2 ^ 64 - 1) else m.faults;
    }

-- after a call that read the next n bytes
abbrev pub after_read : Memory → ℕ → Memory
after_read m n = record (called m) { bytes = drop n m.bytes }

-- after a call that took these bytes
abbrev pub after_write : Memory → List ℕ → Memory
after_write m taken = record (called m) { bytes = m.bytes ++ taken }
