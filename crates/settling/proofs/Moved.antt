-- A pass of all times together, as a pass by a rule.
-- Assumes nothing.
use Prim.Native.Nat.{ℕ, ◌+◌, ◌*◌, ◌≤◌, ◌<◌}
use mathlib.Core.Bool.{true, false, false≢true}
use mathlib.Core.List.{List}
use mathlib.Core.Logic.{⊎_elim}
use mathlib.Core.Path.{◌≡◌, sym, ap, ◌∙◌}
use native.Mathlib.Nat.{le_refl, eq-or-lt_of_le}
use native.Mathlib.Omega.{arith}
use lib.ListN.{length, get_or, take, drop}
use Rattle.folds.specs.Folds.{fill_to}
use Rattle.folds.specs.Stored.{Stored}
use Rattle.folds.proofs.Stored.{filled-stored}
use Rattle.passes.specs.Passes.{capped, pass}
use Rattle.passes.proofs.Ascending.{pass-mono, get_d-pass}
use Rattle.scratch.proofs.Prepared.{passable-kept, prepared-stored}
use Rattle.one_pass.specs.System.{system}
use Rattle.one_pass.specs.DueTasks.{Unchanged}
use Rattle.one_pass.specs.Visiting.{Visitable, Visited}
use Rattle.one_pass.proofs.Sums.{system-mono}
use Rattle.one_pass.proofs.Halves.{front, time, next-time, stands, advanced}
use Rattle.one_pass.proofs.DueTasks.{quiet_next}
use Rattle.settling.proofs.Differing.{halves-same, halves-differ}

module _ {b : List ℕ} {n due : ℕ} {w : List ℕ} (ready : Visitable b n due w)
    {new : List ℕ} (made : Stored (capped (system b) (take n w)) n n w new) where
  tasks : n ≡ (system b).count
  tasks = ready.startable.room.tasks

  room : 2 * n ≤ length w
  room = ready.startable.room.words

  -- the times are as they were
  kept : take n new ≡ take n w
  kept = front (system b) tasks room made

  all : 2 * n ≤ length new
  all = omega (arith, made.size, room)

  -- where the next times are the times, the pass changed none
  pub together-still : take n new ≡ take n (drop n new) → Visited n (pass (system b) (take n w)) w new false × Visitable b n due new
  together-still same =
      let fixed = stands (system b) tasks room made (halves-same n new all same) in (
        record { size = made.size; times = kept ∙ sym fixed; raises = λ k h. rw kept (le_refl _); still = λ _. kept; higher = λ no. absurd (false≢true no) },
        record {
          startable = record { room = passable-kept ready.startable.room made.size; capped = rw kept ready.startable.capped };
          prepared = prepared-stored ready.prepared made (omega arith);
          rises = rw kept ready.rises;
          quiet = λ i h clear. made.before i (omega arith) ∙ ready.quiet i h clear ∙ ap (λ (R : List ℕ). capped (system b) R i) (sym kept);
        },
      )

  -- where one is not, they become the times
  module _ {due' : ℕ} {moved : List ℕ} (advance : moved ≡ fill_to (λ k. get_or new (n + k) 0) n new) (unchanged : Unchanged b n new due' n) where
    stored : Stored (λ k. get_or new (n + k) 0) 0 n new moved
    stored = filled-stored advance (omega (arith, all))

    size : length moved ≡ length w
    size = stored.size ∙ made.size

    times : take n moved ≡ pass (system b) (take n w)
    times = advanced (system b) tasks room made advance

    higher : ((i : ℕ) × (i < n) × (get_or new i 0 ≡ get_or new (n + i) 0 → ⊥)) → (i : ℕ) × (i < n) × (get_or (take n w) i 0 < get_or (take n moved) i 0)
    higher found =
        let i = found.0 in
        let h = found.1 in
        let was = time (system b) tasks room made i h in
        let is = ap (λ (R : List ℕ). get_or R i 0) times ∙ next-time (system b) tasks room made i h in
        let next = next-time (system b) tasks room made i h in
        (i, h, ⊎_elim (λ e. absurd (found.2 (sym was ∙ e ∙ next))) (λ (l : get_or (take n w) i 0 < get_or (pass (system b) (take n w)) i 0). omega (arith, l, is, next)) (eq-or-lt_of_le (ready.rises i h)))

    pub together-moved : (take n new ≡ take n (drop n new) → ⊥) → Visited n (pass (system b) (take n w)) w moved true × Visitable b n due' moved
    together-moved other = (
      record { size = size; times = times; raises = λ k h. rw times (ready.rises k h); still = λ no. absurd (false≢true (sym no)); higher = λ _. higher (halves-differ n new all other) },
      record {
        startable = record { room = passable-kept ready.startable.room size; capped = λ k h. rw times (omega (arith, get_d-pass (system b) (take n w) k h)) };
        prepared = prepared-stored (prepared-stored ready.prepared made (omega arith)) stored (omega arith);
        rises = λ k h. rw times (pass-mono (system b) (system-mono b) (take n w) (pass (system b) (take n w)) (λ j l. ready.rises j (rw tasks l)) k (rw (← tasks) h));
        quiet = quiet_next ready.startable.room made advance unchanged;
      },
    )
