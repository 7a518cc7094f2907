-- Laws of the words that the walk over all tasks leaves, one task more at a time.
-- Assumes nothing.
use Prim.Native.Nat.{ℕ, ◌+◌, ◌*◌, ◌≤◌, ◌<◌}
use mathlib.Core.List.{List}
use Rattle.std.proofs.Common.{Option, Some}
use mathlib.Core.Path.{◌≡◌, sym, ap, ◌∙◌}
use native.Mathlib.Decide.{ℕ_discrete}
use native.Mathlib.Omega.{arith}
use lib.ListN.{get_or}
use Rattle.figures.specs.Figures.{task_pd, task_md}
use Rattle.figures.specs.Overhead.{γ}
use Rattle.figures.specs.Rows.{Evicting}
use Rattle.figures.specs.Survey.{Surveyed, Overheads, Written}
use Rattle.figures.proofs.Rows.{row_within}
use Rattle.survey.proofs.Rows.{Row, row-overhead}

module _ (b : List ℕ) (n i p q : ℕ) (row : Option (List ℕ)) (words words' : List ℕ) (task : i < n) (written : Written n i p q row words words') where
  -- the figures of one task more
  pub surveyed-next : (sets sets' : List ℕ) → p ≡ task_pd b i → q ≡ task_md b i → Evicting b (i + 1) sets' → Surveyed b n i words sets → Surveyed b n (i + 1) words' sets'
  surveyed-next sets sets' pd md ecb held = record {
    pd = λ k h. pd-at k h (ℕ_discrete k i);
    md = λ k h. md-at k h (ℕ_discrete k i);
    ecb = ecb;
  }
    where
      pd-at : (k : ℕ) → k < i + 1 → Dec (k ≡ i) → get_or words' (2 * n + k) 0 ≡ task_pd b k
      pd-at k h (yes r) = ap (λ (j : ℕ). get_or words' (2 * n + j) 0) r ∙ written.pd ∙ pd ∙ ap (task_pd b) (sym r)
      pd-at k h (no d) =
          let less : k < i = omega (arith, d) in
          written.kept (2 * n + k) (omega arith) (λ r. omega arith) (λ r. omega arith) ∙ held.pd k less

      md-at : (k : ℕ) → k < i + 1 → Dec (k ≡ i) → get_or words' (3 * n + k) 0 ≡ task_md b k
      md-at k h (yes r) = ap (λ (j : ℕ). get_or words' (3 * n + j) 0) r ∙ written.md ∙ md ∙ ap (task_md b) (sym r)
      md-at k h (no d) =
          let less : k < i = omega (arith, d) in
          written.kept (3 * n + k) (omega arith) (λ r. omega arith) (λ r. omega arith) ∙ held.md k less

  -- and its overheads
  pub overheads-next : n ≤ 64 → (l : List ℕ) → row ≡ Some l → Row b (i + 1) l → Overheads b n i words → Overheads b n (i + 1) words'
  overheads-next few line there all before k j h l = go (ℕ_discrete k i)
    where
      go : Dec (k ≡ i) → get_or words' (4 * n + (k * n + j)) 0 ≡ γ b k j
      go (yes r) =
          ap (λ (m : ℕ). get_or words' (4 * n + (m * n + j)) 0) r ∙ written.row line there j l ∙ row-overhead b i line all j (omega arith) ∙ ap (λ (m : ℕ). γ b m j) (sym r)
      go (no d) =
          let less : k < i = omega (arith, d) in
          let within : k * n + n ≤ i * n = row_within n i k less in
          written.kept (4 * n + (k * n + j)) (omega arith) (λ r. omega arith) (λ r. omega arith) ∙ before k j less l
