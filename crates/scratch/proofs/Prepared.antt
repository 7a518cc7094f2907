-- The scratch after each step of its preparation, and what a sum takes from it.
-- Assumes nothing.
use Prim.Native.Nat.{ℕ, ◌+◌, ◌-◌, ◌*◌, ◌≤◌, ◌<◌}
use mathlib.Core.List.{List}
use mathlib.Core.Bool.{true}
use mathlib.Core.Path.{◌≡◌, refl, sym, ap, ap₂, subst, ◌∙◌}
use native.Mathlib.Nat.{add_comm}
use native.Mathlib.Omega.{arith}
use lib.ListN.{length, get_or, take, drop, length-drop}
use lib.Seq.{length-take-le, get_or-take, get_or-drop}
use Rattle.board.specs.Layout as at
use Rattle.figures.specs.Figures.{task_pd, task_md}
use Rattle.figures.specs.Overhead.{γ}
use Rattle.figures.specs.Survey.{Surveyed, Overheads}
use Rattle.figures.proofs.Fillable.{surveyed-tasks}
use Rattle.figures.proofs.Bounds.{task_md-bound, γ-bound}
use Rattle.sums.specs.Sums.{memory_demand}
use Rattle.sums.specs.Links.{Linked}
use Rattle.sums.specs.Inputs.{Holds, CappedTimes, SumInput}
use Rattle.folds.specs.Stored.{Stored}
use Rattle.scratch.specs.Scratch.{Passable, ScratchRoom, with_md, Addable, Added, Prepared}

-- what is kept where as many words are
pub room-kept : {b : List ℕ} {n : ℕ} {w w' : List ℕ} → ScratchRoom b n w → length w' ≡ length w → ScratchRoom b n w'
room-kept room e = record { sound = room.sound; tasks = room.tasks; words = rw e room.words }

-- room for the figures is room for the passes
pub passable : {b : List ℕ} {n : ℕ} {w : List ℕ} → ScratchRoom b n w → Passable b n w
passable room = record { sound = room.sound; tasks = room.tasks; words = omega (arith, room.words) }

pub passable-kept : {b : List ℕ} {n : ℕ} {w w' : List ℕ} → Passable b n w → length w' ≡ length w → Passable b n w'
passable-kept room e = record { sound = room.sound; tasks = room.tasks; words = rw e room.words }

-- what a survey of every task leaves: the figures and the overheads are in w₁
module _ {b : List ℕ} {n : ℕ} {w₀ w₁ sets : List ℕ} (room : ScratchRoom b n w₀)
    (surveyed : (Surveyed b (at.tasks b) n w₁ sets) × (true ≡ true → Overheads b (at.tasks b) n w₁) × (length w₁ ≡ length w₀)) where
  held : Surveyed b n n w₁ sets
  held = surveyed-tasks room.tasks surveyed.0

  over : Overheads b n n w₁
  over = subst (λ (m : ℕ). Overheads b m n w₁) (sym room.tasks) (surveyed.1 refl)

  size : length w₁ ≡ length w₀
  size = surveyed.2

  demands : (i k : ℕ) → i < n → k < n → with_md n (4 * n + i * n) w₁ k ≡ γ b i k + task_md b k
  demands i k row column =
      let place : 4 * n + i * n + k ≡ 4 * n + (i * n + k) = omega arith in
      ap₂ ◌+◌ (ap (λ (p : ℕ). get_or w₁ p 0) place ∙ over i k row column) (held.md k column)

  pub addable : Addable n w₁
  addable =
      record {
        few = omega (arith, room.tasks, room.sound.tasks);
        words = rw size room.words;
        fits = λ i k row column.
            let task : k < at.tasks b = omega (arith, room.tasks) in
            omega (arith, demands i k row column, γ-bound b room.sound i k, task_md-bound b room.sound k task);
      }

  pub prepared : {w₂ : List ℕ} → Added n n w₁ w₂ → (Prepared b n w₂) × (length w₂ ≡ length w₀) × (Surveyed b n n w₂ sets)
  unfolding memory_demand
  prepared {w₂} added = (
    record {
      room = room-kept room (added.size ∙ size);
      works = λ k h. added.before (2 * n + k) (omega arith) ∙ held.pd k h;
      rows = λ i k row column.
          let place : 4 * n + (i * n + k) ≡ 4 * n + i * n + k = omega arith in
          ap (λ (p : ℕ). get_or w₂ p 0) place ∙ added.rows i k row column ∙ demands i k row column ∙ add_comm (γ b i k) (task_md b k);
    },
    added.size ∙ size,
    record {
      pd = λ k h. added.before (2 * n + k) (omega arith) ∙ held.pd k h;
      md = λ k h. added.before (3 * n + k) (omega arith) ∙ held.md k h;
      ecb = held.ecb;
    },
  )

-- ---- a prepared scratch

-- a part of w that begins with f 0 .. f (m - 1)
holds-part : (f : ℕ → ℕ) (m a e : ℕ) (w : List ℕ) → a + m ≤ e → e ≤ length w → ((k : ℕ) → k < m → get_or w (a + k) 0 ≡ f k)
    → Holds m f (take (e - a) (drop a w))
holds-part f m a e w within fits all =
    record {
      long = omega (arith, length-take-le (e - a) (drop a w) (omega (arith, length-drop a w)));
      at = λ k h. get_or-take (e - a) (drop a w) k 0 (omega arith) ∙ get_or-drop a w k 0 ∙ all k h;
    }

module _ {b : List ℕ} {n : ℕ} {w : List ℕ} (ready : Prepared b n w) where
  tasks-in : (k : ℕ) → k < at.tasks b → k < n
  tasks-in k h = omega (arith, ready.room.tasks)

  -- it stays prepared where words of the times are stored
  pub prepared-stored : {f : ℕ → ℕ} {a m : ℕ} {w' : List ℕ} → Stored f a m w w' → a + m ≤ 2 * n → Prepared b n w'
  prepared-stored stored low =
      record {
        room = room-kept ready.room stored.size;
        works = λ k h. stored.after (2 * n + k) (omega arith) ∙ ready.works k h;
        rows = λ i k row column. stored.after (4 * n + (i * n + k)) (omega arith) ∙ ready.rows i k row column;
      }

  row-holds : (i a : ℕ) → i < n → a ≡ 4 * n + i * n → a + n ≤ at.scratch_words n → Holds (at.tasks b) (memory_demand b i) (take (a + n - a) (drop a w))
  row-holds i a task e within =
      holds-part (memory_demand b i) (at.tasks b) a (a + n) w (omega (arith, ready.room.tasks)) (omega (arith, ready.room.words))
      (λ k h.
      let place : a + k ≡ 4 * n + (i * n + k) = omega arith in
      ap (λ (p : ℕ). get_or w p 0) place ∙ ready.rows i k task (tasks-in k h))

  -- what a sum takes: the links, the PD, row i and the last row
  pub sum-input : {links R : List ℕ} {i own all : ℕ} → Linked b links → CappedTimes b R → i < n → (own ≡ 4 * n + i * n) × (own + n ≤ at.scratch_words n) × (own + n ≤ at.most_scratch)
      → (all ≡ 4 * n + (n - 1) * n) × (all + n ≤ at.scratch_words n) × (all + n ≤ at.most_scratch)
      → SumInput b links (take (3 * n - 2 * n) (drop (2 * n) w)) (take (own + n - own) (drop own w)) (take (all + n - all) (drop all w)) R i
  sum-input {links} {R} {i} {own} {all} linked times task row last =
      let words : at.scratch_words n ≤ length w = ready.room.words in
      record {
        sound = ready.room.sound;
        task = rw (← ready.room.tasks) task;
        linked = linked;
        works = holds-part (task_pd b) (at.tasks b) (2 * n) (3 * n) w (omega (arith, ready.room.tasks)) (omega arith)
            (λ k h. ready.works k (tasks-in k h));
        owns = row-holds i own task row.0 row.1;
        alls = subst (λ (m : ℕ). Holds (at.tasks b) (memory_demand b (m - 1)) (take (all + n - all) (drop all w))) ready.room.tasks
            (row-holds (n - 1) all (omega arith) last.0 last.1);
        times = times;
      }
