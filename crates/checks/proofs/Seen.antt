-- The numbers named before an index of a list, as the bits of one word: number x + 1 is bit x.
-- Assumes nothing.
use Prim.Native.Nat.{ℕ, ◌+◌, ◌-◌, ◌≤◌}
use mathlib.Core.Bool.{or_comm, true, not, ◌||◌}
use mathlib.Core.List.{List}
use mathlib.Core.Path.{◌≡◌, sym, ap, ◌∙◌}
use native.Mathlib.Omega.{arith}
use lib.Dec.{eqb}
use lib.ListN.{get_or}
use Rattle.folds.proofs.Numbers.{eqb-iff}
use Rattle.folds.proofs.Folds.{any_to-none}
use Rattle.folds.proofs.Loops.{any_to-turn}
use Rattle.bitset.specs.Bits.{bit, word_of}
use Rattle.bitset.proofs.Words.{bit-none, bit-word_of, word_of-is, word_of-cong}
use Rattle.ranges.specs.Ranges.{within}
use Rattle.refusals.proofs.Sound.{within-true}
use Rattle.checks.specs.CallRefusals.{named_before, number_ok}

module _ (order : List ℕ) where
  abbrev pub seen_to : ℕ → ℕ
  seen_to k = word_of (λ x. named_before order k (x + 1)) 64

  pub seen_none : 0 ≡ seen_to 0
  seen_none = word_of-is 64 0 _ (omega arith) (λ x h. bit-none x ∙ sym (any_to-none _))

  -- a number at index k that is within 1 .. n, with the set of those before it
  module _ (n k : ℕ) {seen : ℕ} (few : n ≤ 64) (inside : within 1 n (get_or order k 0) ≡ true) (here : seen ≡ seen_to k) where
    abbrev task : ℕ
    task = get_or order k 0 - 1

    above : (1 ≤ get_or order k 0) × (get_or order k 0 ≤ n)
    above = within-true 1 n (get_or order k 0) inside

    seen-has : bit seen task ≡ named_before order k (get_or order k 0)
    seen-has =
        let same : task + 1 ≡ get_or order k 0 = omega (arith, above) in
        ap (λ (w : ℕ). bit w task) here ∙ bit-word_of 64 _ task (omega (arith, above)) ∙ ap (named_before order k) same

    -- it is good unless it is in the set
    pub number-known : number_ok n order k ≡ not (bit seen task)
    number-known = rw (inside, seen-has)

    -- it is added to the set
    pub seen_next : {next : ℕ} → next ≡ word_of (λ t. eqb t task || bit seen t) 64 → next ≡ seen_to (k + 1)
    seen_next added =
        added
        ∙ word_of-cong _ _ 64
        (λ x h. or_comm (eqb x task) (bit seen x)
        ∙ any_to-turn (λ j. eqb (get_or order j 0) (x + 1)) k (ap (λ (w : ℕ). bit w x) here ∙ bit-word_of 64 _ x h)
        (eqb-iff x task (get_or order k 0) (x + 1) (λ same. omega (arith, above)) (λ same. omega (arith, above))))
