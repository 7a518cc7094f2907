-- For the theorem about boards that put no refresh off: the refreshes and the sum that document 01 has. No contract cites them.
-- Assumes nothing.
use Rattle.std.specs.Prelude.{ℕ, zero, suc, ◌+◌, ◌*◌, min, List}
use Rattle.folds.specs.Folds.{ceil_div}
use Rattle.board.specs.Layout.{access_cycles, refresh, refresh_interval, refresh_rows, refresh_cycles}
use Rattle.figures.specs.Figures.{task_pd}
use Rattle.sums.specs.Sums.{own_time, bus_accesses, higher_work}

module _ (b R : List ℕ) (i : ℕ) where
  -- Q: none, burst (eq. 29), evenly spaced (eq. 30)
  unfoldable pub plain_refreshes : ℕ → ℕ
  plain_refreshes zero = 0
  plain_refreshes (suc zero) = ceil_div (own_time b R i) (refresh_interval b) * refresh_rows b
  plain_refreshes (suc (suc m)) = min (bus_accesses b R i) (ceil_div (own_time b R i * refresh_rows b) (refresh_interval b))

  -- Sum_i, eq. 32
  abbrev pub plain_sum : ℕ
  plain_sum = task_pd b i + higher_work b R i + bus_accesses b R i * access_cycles b + plain_refreshes (refresh b) * refresh_cycles b
