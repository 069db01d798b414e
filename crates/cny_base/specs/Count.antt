-- Counts of faults.
use Rattle.std.specs.Prelude.{ℕ, ◌+◌, ◌-◌, ◌^◌, ◌≤◌, min}

-- A count of 64 bits went up by at least 1, or stands at its greatest value.
abbrev pub Rose : ℕ → ℕ → Type 0
Rose before now = min (before + 1) (2 ^ 64 - 1) ≤ now

-- the next of a number of 64 bits that stays at its greatest value
abbrev pub next : ℕ → ℕ
next n = min (n + 1) (2 ^ 64 - 1)
