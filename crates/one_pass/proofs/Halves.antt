-- The two halves of the times: the times in the first n words, and the next times, which a pass writes, in the n words after them.
-- Assumes nothing.
use Prim.Native.Nat.{ℕ, ◌+◌, ◌*◌, ◌≤◌, ◌<◌}
use mathlib.Core.List.{List}
use mathlib.Core.Path.{◌≡◌, sym, ap, ◌∙◌}
use native.Mathlib.Omega.{arith}
use lib.ListN.{length, get_or, take, replicate, length-replicate, get_or-replicate}
use lib.Seq.{length-take-le, get_or-take, ext_get_or}
use Rattle.folds.specs.Folds.{fill_to}
use Rattle.passes.specs.Passes.{System, capped, pass}
use Rattle.passes.proofs.Ascending.{length-pass, get_d-pass}
use Rattle.passes.proofs.Looping.{Passing, passing-none}
use Rattle.folds.specs.Stored.{Stored}
use Rattle.folds.proofs.Filled.{take-filled}
use Rattle.folds.proofs.Stored.{take-before}
use Rattle.scratch.proofs.Prepared.{passable-kept}
use Rattle.sums.specs.Inputs.{CappedTimes}
use Rattle.one_pass.specs.Startable.{Startable}

-- before the first pass
pub passing-cleared : (S : System) (step : List ℕ → List ℕ) {n : ℕ} {w : List ℕ} (old : List ℕ) → n ≡ S.count → n ≤ length old → w ≡ fill_to (λ k. 0) n old
    → Passing S step 0 (take n w)
passing-cleared S step {n} {w} old e room cleared =
    rw (take-filled {f = λ k. 0} old (replicate n 0) cleared room (length-replicate {A = ℕ} n 0) (λ i h. get_or-replicate {A = ℕ} n i 0 0 h), e) (passing-none S step)

-- while a pass is made
module _ {b : List ℕ} {n : ℕ} {old : List ℕ} (ready : Startable b n old) where
  words : 2 * n ≤ length old
  words = ready.room.words

  pub startable-times : CappedTimes b (take n old)
  startable-times =
      record {
        long = omega (arith, length-take-le n old (omega (arith, words)), ready.room.tasks);
        short = λ k h. ready.capped k h;
      }

  module _ {f : ℕ → ℕ} {m : ℕ} {w : List ℕ} (stored : Stored f n m old w) where
    pub times-kept : take n w ≡ take n old
    times-kept = take-before {n = n} stored (omega arith) (omega (arith, words))

    pub startable-stored : m ≤ n → Startable b n w
    startable-stored h =
        record { room = passable-kept ready.room stored.size; capped = rw times-kept ready.capped }

-- after a pass
module _ (S : System) {n : ℕ} {old new : List ℕ} (tasks : n ≡ S.count) (room : 2 * n ≤ length old)
    (made : Stored (capped S (take n old)) n n old new) where
  -- the times are as they were
  pub front : take n new ≡ take n old
  front = take-before {n = n} made (omega arith) (omega arith)

  -- a next time, and a time before the pass
  pub next-time : (i : ℕ) → i < n → get_or (pass S (take n old)) i 0 ≡ get_or new (n + i) 0
  next-time i h = get_d-pass S (take n old) i (rw (← tasks) h) ∙ sym (made.part i h)

  pub time : (i : ℕ) → i < n → get_or (take n old) i 0 ≡ get_or new i 0
  time i h = get_or-take n old i 0 h ∙ sym (made.before i h)

  -- where the halves agree, the pass changed nothing
  pub stands : ((i : ℕ) → i < n → get_or new i 0 ≡ get_or new (n + i) 0) → pass S (take n old) ≡ take n old
  stands all =
      let size : length (pass S (take n old)) ≡ n = length-pass S (take n old) ∙ sym tasks in
      ext_get_or 0 (pass S (take n old)) (take n old) (size ∙ sym (length-take-le n old (omega arith)))
      (λ i h. let below : i < n = omega arith in next-time i below ∙ sym (all i below) ∙ sym (time i below))

  -- moved to the front, the next times are the times
  pub advanced : {w : List ℕ} → w ≡ fill_to (λ k. get_or new (n + k) 0) n new → take n w ≡ pass S (take n old)
  advanced moved = take-filled new (pass S (take n old)) moved (omega (arith, made.size)) (length-pass S (take n old) ∙ sym tasks) next-time

  -- a time that the pass did not change
  pub still : {w : List ℕ} → w ≡ fill_to (λ k. get_or new (n + k) 0) n new → (i : ℕ) → i < n → get_or new i 0 ≡ get_or new (n + i) 0 → get_or (take n old) i 0 ≡ get_or (take n w) i 0
  still moved i h e = time i h ∙ e ∙ sym (next-time i h) ∙ ap (λ (R : List ℕ). get_or R i 0) (sym (advanced moved))
