-- The useful blocks in the words of document 02: of all blocks, those that are held at the point, and whose next fetch or read, at that point or later,
-- hits in the undisturbed run.
-- Assumes nothing.
use Prim.Native.Nat.{ℕ, zero, suc, ◌+◌, ◌*◌, ◌/◌, ◌%◌, ◌≤◌, ◌<◌}
use mathlib.Core.Bool.{Bool, true, false, cond, ◌&&◌, false≢true}
use mathlib.Core.List.{reverse}
use mathlib.Core.Path.{◌≡◌, sym, ap, ◌∙◌}
use native.Mathlib.Decide.{ℕ_discrete}
use native.Mathlib.Omega.{arith}
use borrow.Author.Tests.{le-leb}
use lib.Dec.{eqb}
use Rattle.folds.specs.Folds.{only_if, sum_where, count_to}
use Rattle.board.specs.Layout.{memory, ways}
use Rattle.board.specs.Sound.{Sound}
use Rattle.lru_cache.specs.Recency.{among, useful_block, useful_in}
use Rattle.lru_cache.specs.Positions.{with_load, before}
use Rattle.lru_cache.proofs.Lists.{among_none, among-behind}
use Rattle.lru_cache.proofs.Useful.{useful-count}
use Rattle.lru_cache.proofs.Blocks.{all_blocks}
use Rattle.trace.specs.Cache.{place_of, all_sets}
use Rattle.trace.specs.Traces.{Trace, fetch, reads, data_block, loads_before, loads_from, useful, useful_at}
use Rattle.trace.specs.Positions.{load_at}
use Rattle.trace.proofs.Caches.{place-low}
use Rattle.trace.proofs.Sets.{useful_at-places}
use Rattle.trace.proofs.Positions.{positions-before}

-- blocks that positions load are below n where each position's number is at most n
before_small : (l : ℕ → ℕ) (n e m : ℕ) → ((i : ℕ) → i < e → l i ≤ n) → among m (before l e) ≡ true → m < n
unfolding before
before_small l n zero m few there = absurd (false≢true (sym (among_none m) ∙ there))
before_small l n (suc e) m few there = go (before_small l n e m (λ i h. few i (omega arith))) (l e) (few e (omega arith)) there
  where
    go : (among m (before l e) ≡ true → m < n) → (x : ℕ) → x ≤ n → among m (with_load x (before l e)) ≡ true → m < n
    go next zero h there = next there
    go next (suc y) h there = side (ℕ_discrete y m)
      where
        side : Dec (y ≡ m) → m < n
        side (yes q) = omega (arith, q, h)
        side (no o) = next (sym (among-behind y m (before l e) o) ∙ there)

module _ (t : Trace) (cached : 2 ≤ memory t.words) (p : ℕ) (small : (i : ℕ) → i < p → fetch t i < 65536) where
  position-small : (e : ℕ) → e < 2 * p → load_at t e ≤ 65536
  unfolding load_at
  position-small e h = go (eqb (e % 2) 0) (reads t (e / 2))
    where
      code : fetch t (e / 2) < 65536
      code = small (e / 2) (omega arith)

      go : (even read : Bool) → cond even (fetch t (e / 2) + 1) (cond read (data_block t (e / 2) + 1) 0) ≤ 65536
      go true read = omega (arith, code)
      go false true = omega arith
      go false false = omega arith

  -- the blocks loaded before the point
  past-small : (m : ℕ) → among m (reverse (loads_before t p)) ≡ true → m < 65536
  past-small m e = before_small (load_at t) 65536 (2 * p) m position-small (ap (among m) (positions-before t p) ∙ e)

  useful-is : (s : ℕ) → useful t p s ≡ useful_in (place_of t.words) (ways t.words) (reverse (loads_before t p)) (loads_from t p) s
  unfolding useful
  useful-is s =
      ap (λ (b : Bool). only_if b (useful_in (place_of t.words) (ways t.words) (reverse (loads_before t p)) (loads_from t p) s)) (le-leb 2 (memory t.words) cached)

  -- block m is useful at the point
  abbrev pub is_useful : ℕ → Bool
  is_useful = useful_block (place_of t.words) (ways t.words) (reverse (loads_before t p)) (loads_from t p)

  -- in a set, and in all sets that pass a test
  pub useful-blocks : (s : ℕ) → useful t p s ≡ count_to (λ m. eqb (place_of t.words m) s && is_useful m) 65536
  useful-blocks s = useful-is s ∙ useful-count (place_of t.words) (ways t.words) (reverse (loads_before t p)) (loads_from t p) 65536 past-small s

  pub useful_at-blocks : (test : ℕ → Bool) → Sound t.words → useful_at t test p ≡ count_to (λ m. test (place_of t.words m) && is_useful m) 65536
  useful_at-blocks test sound =
      useful_at-places t test p
      ∙ ap (λ (f : ℕ → ℕ). sum_where test f all_sets) (λ i s. useful-is s i)
      ∙ all_blocks (place_of t.words) (ways t.words) (reverse (loads_before t p)) (loads_from t p) 65536 past-small test all_sets
      (λ m h. place-low t.words sound cached m)
