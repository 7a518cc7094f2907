-- For the code: what the scan of trace r of a board finds for task i, and leaves: PD and MD, the sets evicted so far, the row of overheads raised where
-- there is one, and no block held of a later trace.
-- Assumes nothing.
use Rattle.std.specs.Prelude.{ℕ, ◌+◌, ◌||◌, List, ◌≡◌, Option, option_map}
use Rattle.bitset.specs.Bits.{member, words_of}
use Rattle.entries.specs.Marks.{AllEarlier, base_of}
use Rattle.trace.specs.Traces.{trace_of, trace_pd, trace_md, evicts, most_useful}
use Rattle.figures.specs.Overhead.{evicted_by}
use Rattle.figures.specs.Rows.{on_core_of, raised}

pub record Found (b : List ℕ) (i r : ℕ) (p m : ℕ) (ecb ecb' : List ℕ) (row row' : Option (List ℕ)) (held' : List ℕ) : Type 0 where
  pub pd : p ≡ trace_pd (trace_of b r)
  pub md : m ≡ trace_md (trace_of b r)
  pub joined : ecb' ≡ words_of 8 (λ s. member ecb s || evicts (trace_of b r) s)
  pub higher : row' ≡ option_map (raised (on_core_of b i (λ j. most_useful (trace_of b r) (evicted_by b j))) i) row
  pub later : AllEarlier (base_of (r + 1)) held'
