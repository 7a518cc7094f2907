-- On a board of document 01 every sum is document 01's, part by part and at any times.
-- Assumes nothing.
use Prim.Native.Nat.{ℕ, zero, suc, ◌+◌, ◌-◌, ◌*◌, ◌/◌, ◌%◌, ◌<◌, min}
use mathlib.Core.Bool.{◌&&◌}
use mathlib.Core.List.{List, [], ◌∷◌}
use mathlib.Core.Path.{◌≡◌, refl, ap, ap₂, ◌∙◌, fun_ext}
use native.Mathlib.Omega.{arith}
use lib.Dec.{ltb}
use lib.ListN.{get_or}
use Rattle.folds.specs.Folds.{ceil_div}
use Rattle.folds.proofs.Folds.{sum_where-cong}
use Rattle.board.specs.Layout.{tasks, bus, access_cycles, refresh, refresh_interval, refresh_rows, refresh_cycles, core, period, deadline}
use Rattle.document01.specs.Document01 as old
use Rattle.document01.specs.Document01.{Board}
use Rattle.document01.proofs.Boards.{sound, one_way, none-put-off, punctual}
use Rattle.figures.specs.Figures.{task_md}
use Rattle.figures.specs.Overhead.{γ}
use Rattle.figures.proofs.Document01.{task_pd-01, task_md-01, γ-01}
use Rattle.sums.specs.Sums.{lowest, bound, memory_demand, window, carry_in, core_accesses, lower_accesses, own_accesses, interference, bus_accesses, refreshes, higher_work, task_sum}
use Rattle.sums.specs.SixParts.{six_parts}
use Rattle.sums.specs.Links.{is_on}
use Rattle.sums.proofs.Jitter.{bound-punctual, releases-punctual, window-punctual}
use Rattle.sums.proofs.PutOff.{refreshes-none}

module _ (b : List ℕ) (board : Board b) where
  -- a task is late above D
  pub bound-01 : (i : ℕ) → i < tasks b → bound b i ≡ deadline b i
  bound-01 i task = bound-punctual b i (punctual b board i task)

  pub MD-01 : (k : ℕ) → task_md b k ≡ old.MD b k
  MD-01 = task_md-01 b (sound b board) board.word_4 (one_way b board)

  pub overhead-01 : (i j : ℕ) → γ b i j ≡ old.γ b i j
  overhead-01 = γ-01 b (sound b board) board.word_4 (one_way b board)

  memory_demand-01 : (j k : ℕ) → memory_demand b j k ≡ old.D' b j k
  unfolding memory_demand old.D'
  memory_demand-01 j k = ap₂ ◌+◌ (MD-01 k) (overhead-01 j k)

  module _ (R : List ℕ) (i : ℕ) where
    abbrev t : ℕ
    t = get_or R i 0

    -- ---- u, W, A and L

    window-01 : (j k : ℕ) → k < tasks b → window b R t j k ≡ old.u b R i j k
    window-01 j k h =
        window-punctual b k (punctual b board k h) R t j ∙ ap (λ (D : ℕ). t + get_or R k 0 - D * access_cycles b) (memory_demand-01 j k)

    carry_in-01 : (j k : ℕ) → k < tasks b → carry_in b R t j k ≡ old.W b R i j k
    unfolding carry_in old.W
    carry_in-01 j k h =
        ap₂ (λ (D u : ℕ). D * (u / period b k) + min D (ceil_div (u % period b k) (access_cycles b))) (memory_demand-01 j k) (window-01 j k h)

    core_accesses-01 : (j : ℕ) → j < tasks b → core_accesses b R t j ≡ old.A b R i j
    unfolding core_accesses old.A
    core_accesses-01 j l = fun_ext (λ y. sum_where-cong (is_on b y) _ _ (j + 1) (λ k h. carry_in-01 j k (omega arith)))

    lower_accesses-01 : lower_accesses b R t i ≡ old.L b R i
    unfolding lower_accesses old.L
    lower_accesses-01 = fun_ext (λ y. sum_where-cong (λ k. ltb i k && is_on b y k) _ _ (tasks b) (carry_in-01 (lowest b)))

    module _ (task : i < tasks b) where
      -- ---- S, B, Q and the sum

      pub own_accesses-01 : own_accesses b R i ≡ old.S b R i
      unfolding own_accesses old.S
      own_accesses-01 =
          sum_where-cong (is_on b (core b i)) _ _ (i + 1)
          (λ k h. ap₂ ◌*◌ (releases-punctual b k (punctual b board k (omega arith)) i t) (memory_demand-01 i k))

      pub higher_work-01 : higher_work b R i ≡ old.higher_work b R i
      unfolding higher_work old.higher_work
      higher_work-01 =
          sum_where-cong (is_on b (core b i)) _ _ i
          (λ k h. ap₂ ◌*◌ (releases-punctual b k (punctual b board k (omega arith)) i t) (task_pd-01 b k))

      -- A(n, y)
      every : core_accesses b R t (lowest b) ≡ old.A b R i (lowest b)
      every = core_accesses-01 (lowest b) (omega arith)

      counted : (c : ℕ) → own_accesses b R i + interference b R i c + 1 ≡ old.B b R i c
      unfolding interference old.B
      counted zero = rw (core_accesses-01 i task, lower_accesses-01, own_accesses-01) (omega arith)
      counted (suc zero) = rw (every, own_accesses-01) (omega arith)
      counted (suc (suc zero)) = rw (every, own_accesses-01)
      counted (suc (suc (suc zero))) = rw (every, own_accesses-01)
      counted (suc (suc (suc (suc m)))) = rw own_accesses-01

      pub bus_accesses-01 : bus_accesses b R i ≡ old.B b R i (bus b)
      unfolding bus_accesses
      bus_accesses-01 = counted (bus b)

      pub refreshes-01 : (c : ℕ) → refreshes b R i c ≡ old.Q b R i c
      unfolding refreshes old.Q
      refreshes-01 zero = refl
      refreshes-01 (suc zero) = refl
      refreshes-01 (suc (suc m)) =
          refreshes-none b R i (none-put-off b board)
          ∙ ap (λ (n : ℕ). min n (ceil_div (t * refresh_rows b) (refresh_interval b))) bus_accesses-01

      pub task_sum-01 : task_sum b R i ≡ old.Sum b R i
      unfolding task_sum old.Sum
      task_sum-01 = rw (task_pd-01 b i, higher_work-01, bus_accesses-01, refreshes-01)

      -- the six parts, of document 01's numbers
      pub six_parts-01 : six_parts b R i
          ≡ old.PD b i
          ∷ old.higher_work b R i
          ∷ old.S b R i * access_cycles b
          ∷ (old.B b R i (bus b) - old.S b R i - 1) * access_cycles b
          ∷ access_cycles b
          ∷ old.Q b R i (refresh b) * refresh_cycles b
          ∷ []
      unfolding six_parts
      six_parts-01 = rw (task_pd-01 b i, higher_work-01, bus_accesses-01, own_accesses-01, refreshes-01)
