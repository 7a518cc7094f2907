-- The positions that the code scans say what the lists of loads say.
-- Assumes nothing.
use Prim.Native.Nat.{ℕ, zero, suc, ◌-◌, ◌*◌, ◌/◌, ◌%◌, ◌≤◌}
use mathlib.Core.Bool.{Bool, true, false, cond}
use mathlib.Core.List.{List, [], ◌∷◌, ◌++◌, reverse}
use mathlib.Core.Path.{◌≡◌, refl, ap, ap₂, ◌∙◌}
use native.Mathlib.Numerals.{add-one}
use native.Mathlib.Omega.{arith}
use Rattle.lru_cache.specs.Positions.{with_load, before, next_loads}
use Rattle.lru_cache.proofs.Positions.{before-is}
use Rattle.trace.specs.Traces.{Trace, fetch, reads, data_block, loads, loads_before, loads_from}
use Rattle.trace.specs.Positions.{load_at}

module _ (t : Trace) where
  pub fetch-position : (p : ℕ) → load_at t (2 * p) ≡ suc (fetch t p)
  unfolding load_at
  fetch-position p =
      let even : 2 * p % 2 ≡ 0 = omega arith in
      let half : 2 * p / 2 ≡ p = omega arith in
      rw (half, even) (add-one (fetch t p))

  pub read-position : (p : ℕ) → load_at t (suc (2 * p)) ≡ cond (reads t p) (suc (data_block t p)) 0
  unfolding load_at
  read-position p =
      let odd : suc (2 * p) % 2 ≡ 1 = omega arith in
      let half : suc (2 * p) / 2 ≡ p = omega arith in
      rw (half, odd) (ap (λ m. cond (reads t p) m 0) (add-one (data_block t p)))

  read-list : (r : Bool) (m : ℕ) (rest : List ℕ) → with_load (cond r (suc m) 0) rest ≡ cond r (m ∷ []) [] ++ rest
  read-list true m rest = refl
  read-list false m rest = refl

  pub next_loads-loads : (p k : ℕ) → next_loads (load_at t) (2 * p) (2 * k) ≡ loads t p k
  unfolding next_loads loads
  next_loads-loads p zero = refl
  next_loads-loads p (suc k) =
      let twice : 2 * suc k ≡ suc (suc (2 * k)) = omega arith in
      let next : suc (suc (2 * p)) ≡ 2 * suc p = omega arith in
      ap (next_loads (load_at t) (2 * p)) twice
      ∙ ap₂ (λ (x : ℕ) (rest : List ℕ). with_load x rest) (fetch-position p)
      (ap₂ (λ (x : ℕ) (j : ℕ). with_load x (next_loads (load_at t) j (2 * k))) (read-position p) next
      ∙ read-list (reads t p) (data_block t p) (next_loads (load_at t) (2 * suc p) (2 * k))
      ∙ ap (λ (rest : List ℕ). cond (reads t p) (data_block t p ∷ []) [] ++ rest) (next_loads-loads (suc p) k))

  -- what comes before a point, the last first, and what from it on
  pub positions-before : (p : ℕ) → before (load_at t) (2 * p) ≡ reverse (loads_before t p)
  positions-before p = before-is (load_at t) (2 * p) ∙ ap reverse (next_loads-loads 0 p)

  pub positions-from : (p : ℕ) → p ≤ t.len → next_loads (load_at t) (2 * p) (2 * t.len - 2 * p) ≡ loads_from t p
  positions-from p h =
      let rest : 2 * t.len - 2 * p ≡ 2 * (t.len - p) = omega arith in
      ap (next_loads (load_at t) (2 * p)) rest ∙ next_loads-loads p (t.len - p)
