-- Demand 3 leaves no choice of an answer: two answers that meet it on one board, with their times buffers, are the same answer, and give the same times.
-- Whether the limit is spent is a test of numbers. Else an answer is late, with its one task and count, or it is not: then the other is not late either, so
-- that there is a choice, for want of which it would be, and both are times. Of two least choices each is below the other.
-- Assumes nothing.
use Prim.Native.Nat.{ℕ, ◌+◌, ◌≤◌, ◌<◌}
use mathlib.Core.List.{List}
use mathlib.Core.Logic.{◌⊎◌, inl, inr}
use mathlib.Core.Path.{◌≡◌, sym, ap₂, ◌∙◌}
use native.Mathlib.Decide.{ℕ_discrete}
use native.Mathlib.Omega.{arith}
use lib.ListN.{get_or, take}
use lib.Seq.{ext_get_or}
use Rattle.folds.proofs.Numbers.{le-or-lt}
use Rattle.board.specs.Layout.{tasks, pass_limit}
use Rattle.document01.specs.Document01.{passes_needed, first_late, Reply, value, times, late, spent, refused, NoChoice, LeastChoice, Demand3}

is-late : (r : Reply) (task passes : ℕ) → Dec (r ≡ late task passes)
is-late (late i p) task passes = both (ℕ_discrete i task) (ℕ_discrete p passes)
  where
    both : Dec (i ≡ task) → Dec (p ≡ passes) → Dec (late i p ≡ late task passes)
    both (yes e) (yes h) = yes (ap₂ late e h)
    both (yes e) (no n) = no (λ h. n cc)
    both (no n) d = no (λ h. n cc)
is-late (value x) task passes = no (λ e. let z : ◌≡◌ {A = ℕ} 0 1 = cc in omega arith)
is-late (times p) task passes = no (λ e. let z : ◌≡◌ {A = ℕ} 0 1 = cc in omega arith)
is-late spent task passes = no (λ e. let z : ◌≡◌ {A = ℕ} 0 1 = cc in omega arith)
is-late (refused number place) task passes = no (λ e. let z : ◌≡◌ {A = ℕ} 0 1 = cc in omega arith)

module _ (b : List ℕ) where
  pub least-same : {R R' : List ℕ} → LeastChoice b R → LeastChoice b R' → R ≡ R'
  least-same {R} {R'} one other =
      ext_get_or 0 R R' (one.choice.size ∙ sym other.choice.size)
      (λ i h.
      let task : i < tasks b = omega (arith, one.choice.size) in
      omega (arith, one.least R' other.choice i task, other.least R one.choice i task))

  module _ {r r' : Reply} {R R' : List ℕ} (one : Demand3 b r R) (other : Demand3 b r' R') where
    pub demand3-same : (r ≡ r') × ((p : ℕ) → r ≡ times p → take (tasks b) R ≡ take (tasks b) R')
    demand3-same = elim (le-or-lt (passes_needed b) (pass_limit b)) [
      | inr over ↦ (one.is_spent.1 over ∙ sym (other.is_spent.1 over), λ p e. let h = one.is_spent.1 over in let z : ◌≡◌ {A = ℕ} 0 1 = cc in absurd (omega arith))
      | inl within ↦ by-late within (is-late r (first_late b + 1) (passes_needed b))
    ]
      where
        by-late : passes_needed b ≤ pass_limit b → Dec (r ≡ late (first_late b + 1) (passes_needed b))
            → (r ≡ r') × ((p : ℕ) → r ≡ times p → take (tasks b) R ≡ take (tasks b) R')
        by-late within (yes e) =
            (e ∙ sym ((other.is_late within).1 ((one.is_late within).0 e)), λ p h. let z : ◌≡◌ {A = ℕ} 0 1 = cc in absurd (omega arith))
        by-late within (no n) =
            let some : NoChoice b → ⊥ = λ none. n ((one.is_late within).1 none) in
            let here = one.is_times within some in
            let there = other.is_times within some in
            (here.0 ∙ sym there.0, λ _ _. least-same here.1 there.1)
