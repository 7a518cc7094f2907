-- The sets that the instructions of a trace touch are those that it evicts.
-- Assumes nothing.
use Prim.Native.Nat.{ℕ, zero, suc, ◌≤◌, ◌<◌}
use mathlib.Core.Bool.{Bool, not, cond, ◌&&◌, ◌||◌, or-false}
use mathlib.Core.List.{[], ◌∷◌, ◌++◌}
use mathlib.Core.Path.{◌≡◌, refl, sym, ap, ◌∙◌}
use native.Mathlib.Omega.{arith}
use lib.Dec.{eqb}
use borrow.Author.Tests.{le-leb}
use Rattle.folds.specs.Folds.{any_to}
use Rattle.folds.proofs.Folds.{any_to-cong}
use Rattle.board.specs.Layout.{memory, kind_of}
use Rattle.lru_cache.specs.Recency.{some_in}
use Rattle.trace.specs.Cache.{place_of}
use Rattle.trace.specs.Traces.{Trace, fetch, work, data_block, touched_by, evicts}
use Rattle.trace.specs.Positions.{touches}

module _ (t : Trace) where
  touches-is : (place : ℕ → ℕ) (p s : ℕ) → kind_of (work t p) ≤ 2 → some_in place s (touched_by t p) ≡ touches t place p s
  unfolding some_in touches
  touches-is place p s h = go (kind_of (work t p)) h
    where
      go : (kind : ℕ) → kind ≤ 2
          → some_in place s ((fetch t p ∷ cond (eqb kind 1) (data_block t p ∷ []) []) ++ cond (eqb kind 2) (data_block t p ∷ []) [])
          ≡ (eqb (place (fetch t p)) s || (not (eqb kind 0) && eqb (place (data_block t p)) s))
      go zero h = refl
      go (suc zero) h = ap (λ (u : Bool). eqb (place (fetch t p)) s || u) (or-false (eqb (place (data_block t p)) s))
      go (suc (suc zero)) h = ap (λ (u : Bool). eqb (place (fetch t p)) s || u) (or-false (eqb (place (data_block t p)) s))
      go (suc (suc (suc kind))) h = absurd (omega arith)

  pub evicts-is : (s : ℕ) → 2 ≤ memory t.words → ((p : ℕ) → p < t.len → kind_of (work t p) ≤ 2)
      → any_to (λ p. touches t (place_of t.words) p s) t.len ≡ evicts t s
  unfolding evicts
  evicts-is s some kinds =
      any_to-cong (λ p. touches t (place_of t.words) p s) (λ p. some_in (place_of t.words) s (touched_by t p)) t.len
      (λ p h. sym (touches-is (place_of t.words) p s (kinds p h)))
      ∙ sym (rw (le-leb 2 (memory t.words) some))
