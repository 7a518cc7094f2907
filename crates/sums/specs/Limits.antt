-- For the code: how large the numbers of a sum can be, on a board that passed its checks and at times of at most D − J + 1. It stays below
-- 2^64 by them: proofs/Bounds.antt proves each, and a reader of the definitions can pass this file by.
-- Assumes nothing.
use Rattle.std.specs.Prelude.{ℕ, ◌+◌, ◌-◌, ◌*◌, ◌^◌}
use Rattle.board.specs.Layout.{most_tasks, longest}

-- ---- of a board's words

-- ℓ
abbrev pub most_cores : ℕ
most_cores = 8

-- v
abbrev pub most_slots : ℕ
most_slots = 8

-- d, and dr
abbrev pub longest_access : ℕ
longest_access = 255

-- ---- of one task

-- a time: D − J + 1; and with J: D + 1
abbrev pub latest_time : ℕ
latest_time = longest + 1

-- PD of 1,024 instructions
abbrev pub most_work : ℕ
most_work = 2 ^ 22

-- D': MD of 1,024 instructions, and the reloads of 512 sets of eight ways
abbrev pub most_demand : ℕ
most_demand = 2 ^ 13

-- ceil((t + J)/T)
abbrev pub most_releases : ℕ
most_releases = latest_time + longest

-- u, which is at most t + R_k + J_k
abbrev pub longest_window : ℕ
longest_window = 2 * latest_time

-- W: D' in each period of the window, and once more
abbrev pub most_carry_in : ℕ
most_carry_in = most_demand * longest_window + most_demand

-- ---- of all tasks

-- S
abbrev pub most_own_accesses : ℕ
most_own_accesses = most_tasks * (most_releases * most_demand)

-- the work of higher tasks
abbrev pub most_higher_work : ℕ
most_higher_work = most_tasks * (most_releases * most_work)

-- A, L, and every other sum of W over tasks
abbrev pub most_accesses : ℕ
most_accesses = most_tasks * most_carry_in

-- ---- on the bus

-- of other cores: TDMA has the most, 7 × 8 × S
abbrev pub most_interference : ℕ
most_interference = (most_cores - 1) * most_slots * most_own_accesses

-- B, and the refreshes
abbrev pub most_bus_accesses : ℕ
most_bus_accesses = 2 ^ 54
