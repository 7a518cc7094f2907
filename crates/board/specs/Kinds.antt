-- The number that stands for each kind in a board's word.
-- Assumes nothing.
use Rattle.std.specs.Prelude.{ℕ}
use Rattle.board.specs.declared.kinds.Memory.{Memory}
use Rattle.board.specs.declared.kinds.Memory.TheVariants.{Plain, Scratchpad, OneCache, TwoCaches}
use Rattle.board.specs.declared.kinds.Bus.{Bus}
use Rattle.board.specs.declared.kinds.Bus.TheVariants.{FixedPriority, ProcessorPriority, Fifo, RoundRobin, Tdma}
use Rattle.board.specs.declared.kinds.Refresh.{Refresh}
use Rattle.board.specs.declared.kinds.Refresh.TheVariants.{Absent, Burst, Distributed}

-- word 4: none, a scratchpad, one cache, a code cache and a data cache
abbrev pub memory_number : Memory → ℕ
memory_number Plain = 0
memory_number Scratchpad = 1
memory_number OneCache = 2
memory_number TwoCaches = 3

-- word 5
abbrev pub bus_number : Bus → ℕ
bus_number FixedPriority = 0
bus_number ProcessorPriority = 1
bus_number Fifo = 2
bus_number RoundRobin = 3
bus_number Tdma = 4

-- word 8: none, burst, distributed
abbrev pub refresh_number : Refresh → ℕ
refresh_number Absent = 0
refresh_number Burst = 1
refresh_number Distributed = 2
