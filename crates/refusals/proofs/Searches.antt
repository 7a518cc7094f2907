-- Laws of the searches `first_bad` and `bad_in`, over any test. Those of `bad_in` that end in -pass, -stop and -end are what a loop that
-- looks upwards needs, whose invariant is `bad_in test i end ≡ bad_in test from end`: what is to be found is what is found from here on.
-- Assumes nothing.
use Prim.Native.Nat.{ℕ, ◌+◌, ◌-◌, ◌≤◌, ◌<◌}
use mathlib.Core.Bool.{Bool, true, false, not}
use mathlib.Core.Path.{◌≡◌, ap}
use native.Mathlib.Omega.{arith}
use borrow.Author.Tests.{not-false, le-leb, lt-leb}
use Rattle.std.specs.Prelude.{Some, None}
use Rattle.folds.proofs.Searches.{first_from-first, first_from-is}
use Rattle.folds.proofs.Loops.{first_from-pass, first_from-stop, first_from-end}
use Rattle.refusals.specs.Refusals.{first_bad}
use Rattle.refusals.specs.Found.{bad_in}

module _ (test : ℕ → Bool) where
  pub first_bad-pass : (i end : ℕ) → i < end → test i ≡ true → first_bad test (i + 1) end ≡ first_bad test i end
  unfolding first_bad
  first_bad-pass i end l e = first_from-pass (λ k. not (test k)) i end l (ap not e)

  pub first_bad-stop : (i end : ℕ) → i < end → test i ≡ false → i ≡ first_bad test i end
  unfolding first_bad
  first_bad-stop i end l e = first_from-stop (λ k. not (test k)) i end l (ap not e)

  pub first_bad-end : (i end : ℕ) → end ≤ i → i ≡ first_bad test i end
  unfolding first_bad
  first_bad-end i end h = first_from-end (λ k. not (test k)) i end h

  -- where nothing is found, all pass
  pub first_bad-all : (from end : ℕ) → end ≤ first_bad test from end → (i : ℕ) → from ≤ i → i < end → test i ≡ true
  unfolding first_bad
  first_bad-all from end h i l u =
      not-false (test i) ((first_from-first (λ k. not (test k)) (end - from) from).before i l (omega (arith, h)))

  -- where all pass, nothing is found
  pub first_bad-none : (from end : ℕ) → from ≤ end → ((i : ℕ) → from ≤ i → i < end → test i ≡ true) → first_bad test from end ≡ end
  unfolding first_bad
  first_bad-none from end h all =
      first_from-is (λ k. not (test k)) (end - from) from end
      (record { from = h; upto = omega arith; before = λ i l u. ap not (all i l u); here = λ l. absurd (omega arith) })

  pub bad_in-pass : (i end : ℕ) → i < end → test i ≡ true → bad_in test (i + 1) end ≡ bad_in test i end
  unfolding bad_in
  bad_in-pass i end l e = rw (first_bad-pass i end l e)

  pub bad_in-stop : (i end : ℕ) → i < end → test i ≡ false → bad_in test i end ≡ Some i
  unfolding bad_in
  bad_in-stop i end l e = rw (← first_bad-stop i end l e, lt-leb end i l)

  pub bad_in-end : (i end : ℕ) → end ≤ i → bad_in test i end ≡ None
  unfolding bad_in
  bad_in-end i end h = rw (← first_bad-end i end h, le-leb end i h)

-- what such a loop needs
pub ruleset searched = (bad_in-pass, bad_in-stop, bad_in-end)
