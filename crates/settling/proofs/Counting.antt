-- What a loop over passes by any step knows before each of them, and what it ends with: the passes made, and the times.
-- Assumes nothing.
use Prim.Native.Nat.{ℕ, ◌+◌, ◌≤◌, ◌<◌}
use mathlib.Core.List.{List}
use mathlib.Core.Path.{◌≡◌, refl, sym, ap, subst, ◌∙◌}
use native.Mathlib.Omega.{arith}
use lib.ListN.{length, get_or, take}
use Rattle.std.specs.Prelude.{Some, None, true, false}
use Rattle.folds.specs.Folds.{fill_to}
use Rattle.folds.proofs.Lists.{length-fill_to}
use Rattle.passes.specs.Passes.{System, passes_by}
use Rattle.passes.specs.Ascending.{Ascending}
use Rattle.passes.proofs.Looping.{Passing, passing-more, passing-over, passing-needed, passing-settled}
use Rattle.one_pass.specs.Visiting.{Visited}
use Rattle.one_pass.proofs.Halves.{passing-cleared}
use Rattle.settling.specs.Settling.{passes_of, Ended}
use Rattle.settling.proofs.Ends.{passes_over, passes-needed}

-- so many passes were made, each of which changed a time; the times are the first n words
pub record Counting (S : System) (step : List ℕ → List ℕ) (n : ℕ) (w₀ w : List ℕ) (made : ℕ) : Type 0 where
  pub size : length w ≡ length w₀
  pub so_far : Passing S step made (take n w)

-- all times are 0
pub counting-start : (S : System) (step : List ℕ → List ℕ) {n : ℕ} {w : List ℕ} (old : List ℕ) → n ≡ S.count → n ≤ length old → w ≡ fill_to (λ k. 0) n old
    → Counting S step n old w 0
counting-start S step {n} old tasks room cleared =
    record { size = ap length cleared ∙ length-fill_to (λ k. 0) old n; so_far = passing-cleared S step old tasks room cleared }

module _ {S : System} {step : List ℕ → List ℕ} (up : Ascending S step) {n : ℕ} {w₀ w : List ℕ} {made : ℕ} (c : Counting S step n w₀ w made) where
  -- as many passes were made as the limit allows
  pub counting-over : {limit : ℕ} → limit ≤ made → (None ≡ passes_of S step limit) × Ended S step limit w₀ w
  counting-over {limit} h =
      let over : limit < passes_by S step = omega (arith, passing-over up c.so_far) in
      (sym (passes_over S step limit over), record { size = c.size; times = λ h. absurd (omega arith) })

  -- one more pass was made, and changed a time
  pub counting-next : {new : List ℕ} → Visited n (step (take n w)) w new true → Counting S step n w₀ new (made + 1)
  counting-next {new} visited =
      record {
        size = visited.size ∙ c.size;
        so_far = subst (λ (R : List ℕ). Passing S step (made + 1) R) (sym visited.times) (passing-more c.so_far (λ e. differ (visited.higher refl) (visited.times ∙ e)));
      }
    where
      differ : ((i : ℕ) × (i < n) × (get_or (take n w) i 0 < get_or (take n new) i 0)) → take n new ≡ take n w → ⊥
      differ found e = let higher = found.2 in omega (arith, ap (λ (R : List ℕ). get_or R found.0 0) e)

  -- and changed none
  pub counting-still : {new : List ℕ} {limit : ℕ} → made < limit → n ≡ S.count → Visited n (step (take n w)) w new false
      → (Some (made + 1) ≡ passes_of S step limit) × Ended S step limit w₀ new
  counting-still {new} {limit} within tasks visited =
      let fixed = sym visited.times ∙ visited.still refl in (
        sym (passes-needed S step limit (made + 1) (passing-needed up c.so_far fixed) (omega arith)),
        record {
          size = visited.size ∙ c.size;
          times = λ _. ap (λ (k : ℕ). take k new) (sym tasks) ∙ visited.still refl ∙ sym (passing-settled up c.so_far fixed);
        },
      )
