-- The links between the tasks of each core: how they grow by a task, and the way up from a task.
-- Assumes nothing.
use Prim.Native.Nat.{ℕ, ◌+◌, ◌-◌, ◌<◌}
use mathlib.Core.Bool.{true}
use mathlib.Core.List.{List}
use mathlib.Core.Path.{◌≡◌, sym, ap, ◌∙◌}
use native.Mathlib.Decide.{ℕ_discrete}
use native.Mathlib.Omega.{arith}
use lib.ListN.{get_or, set, replicate, length-set, length-replicate, get_or-replicate}
use lib.Seq.{get_or-set_same, get_or-set_other}
use borrow.Author.Tests.{eqb-true, eq-eqb, ne_eqb}
use Rattle.folds.specs.Folds.{last_to}
use Rattle.folds.proofs.Last.{last_to-none, last_to-here, last_to-other}
use Rattle.board.specs.Layout.{most_tasks, core}
use Rattle.board.specs.Sound.{Between}
use Rattle.sums.specs.Limits.{most_cores}
use Rattle.sums.specs.Links.{is_on, LinkedTo}

-- no task yet
pub linked-none : (b : List ℕ) → LinkedTo b 0 (replicate (most_tasks + most_cores) 0)
linked-none b =
    record {
      size = length-replicate {A = ℕ} (most_tasks + most_cores) 0;
      above = λ k h. absurd (omega arith);
      last = λ y h. get_or-replicate (most_tasks + most_cores) (most_tasks + y) 0 0 (omega arith) ∙ sym (last_to-none (is_on b (y + 1)));
    }

-- task k follows what was the last of its core, which stands at `at`, and is now the last
pub linked-turn : (b : List ℕ) (k : ℕ) {l : List ℕ} {at v w : ℕ} → LinkedTo b k l → k < most_tasks → Between 1 most_cores (core b k)
    → at ≡ most_tasks + (core b k - 1) → v ≡ get_or l at 0 → w ≡ k + 1 → LinkedTo b (k + 1) (set (set l k v) at w)
linked-turn b k {l} {at} {v} {w} h few on place old new =
    record {
      size = length-set (set l k v) at w ∙ length-set l k v ∙ h.size;
      above = λ m less. earlier m (ℕ_discrete m k) less;
      last = λ y less. ending y (ℕ_discrete (most_tasks + y) at) less;
    }
  where
    follows : get_or l at 0 ≡ last_to (is_on b (core b k)) k
    follows =
        let back : core b k - 1 + 1 ≡ core b k = omega (arith, on.0) in
        ap (λ (p : ℕ). get_or l p 0) place ∙ h.last (core b k - 1) (omega (arith, on)) ∙ ap (λ (y : ℕ). last_to (is_on b y) k) back

    earlier : (m : ℕ) → Dec (m ≡ k) → m < k + 1 → get_or (set (set l k v) at w) m 0 ≡ last_to (is_on b (core b m)) m
    earlier m (yes same) less =
        get_or-set_other (set l k v) at m w 0 (λ q. omega arith)
        ∙ ap (λ (p : ℕ). get_or (set l k v) p 0) same
        ∙ get_or-set_same l k v 0 (omega (arith, h.size))
        ∙ old
        ∙ follows
        ∙ ap (λ (p : ℕ). last_to (is_on b (core b p)) p) (sym same)
    earlier m (no other) less =
        let lower : m < k = omega (arith, other) in
        get_or-set_other (set l k v) at m w 0 (λ q. omega arith) ∙ get_or-set_other l k m v 0 other ∙ h.above m lower

    ending : (y : ℕ) → Dec (most_tasks + y ≡ at) → y < most_cores → get_or (set (set l k v) at w) (most_tasks + y) 0 ≡ last_to (is_on b (y + 1)) (k + 1)
    ending y (yes same) less =
        ap (λ (p : ℕ). get_or (set (set l k v) at w) p 0) same
        ∙ get_or-set_same (set l k v) at w 0 (omega (arith, h.size, length-set l k v))
        ∙ new
        ∙ sym (last_to-here (is_on b (y + 1)) k (eq-eqb (core b k) (y + 1) (omega (arith, on.0))))
    ending y (no other) less =
        get_or-set_other (set l k v) at (most_tasks + y) w 0 other
        ∙ get_or-set_other l k (most_tasks + y) v 0 (λ q. omega arith)
        ∙ h.last y less
        ∙ sym (last_to-other (is_on b (y + 1)) k (ne_eqb (core b k) (y + 1) (λ q. other (omega (arith, on.0)))))

-- ---- on the way up

-- the next task above task k on core y, on which task k is
pub link_up : (b : List ℕ) (y k : ℕ) {next : ℕ} → is_on b y k ≡ true → next ≡ last_to (is_on b (core b k)) k → next ≡ last_to (is_on b y) k
link_up b y k on up = up ∙ ap (λ (z : ℕ). last_to (is_on b z) k) (eqb-true (core b k) y on)
