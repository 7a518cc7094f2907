-- The refreshes, from numbers that code read off the board and the times.
-- Assumes nothing.
use Prim.Native.Nat.{ℕ, ◌+◌, ◌*◌, min}
use mathlib.Core.List.{List}
use mathlib.Core.Path.{◌≡◌}
use lib.ListN.{get_or}
use Rattle.folds.specs.Folds.{ceil_div}
use Rattle.board.specs.Layout.{refresh_interval, refresh_rows, put_off}
use Rattle.sums.specs.Sums.{bus_accesses, refreshes}

module _ (b R : List ℕ) (i : ℕ) {t T rows n : ℕ} (time : t ≡ get_or R i 0) (interval : T ≡ refresh_interval b) (each : rows ≡ refresh_rows b) where
  pub burst-is : n ≡ ceil_div t T → n * rows ≡ refreshes b R i 1
  unfolding refreshes
  burst-is due = cc

  pub distributed-is : {q count p : ℕ} → n ≡ ceil_div (t * rows) T → p ≡ put_off b → count ≡ bus_accesses b R i → q ≡ min count (n + p)
      → q ≡ refreshes b R i 2
  unfolding refreshes
  distributed-is due postponed all least = cc
