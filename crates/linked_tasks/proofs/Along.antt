-- A sum over the tasks of a core, from its last one to each next one above it.
-- Assumes nothing.
use Prim.Native.Nat.{ℕ, suc, ◌+◌, ◌-◌, ◌<◌}
use mathlib.Core.List.{List}
use mathlib.Core.Path.{◌≡◌, ap, ◌∙◌}
use native.Mathlib.Omega.{arith}
use Rattle.std.specs.Prelude.{Option, Some, None}
use Rattle.folds.specs.Folds.{sum_where, last_to}
use Rattle.folds.proofs.Last.{Traversed, last_to-low, traversed-start, traversed-turn, traversed-end}
use Rattle.board.specs.Layout.{core}
use Rattle.sums.specs.Links.{is_on}
use Rattle.sums.proofs.Links.{link_up}
use Rattle.linked_tasks.specs.Numbered.{task_numbered, number_of}
use Rattle.linked_tasks.proofs.Numbered.{number_of-numbered}

-- of the tasks below n on core y, f k for task k
module _ (b : List ℕ) (y : ℕ) (f : ℕ → ℕ) (n : ℕ) where
  -- `acc` has what the tasks after `next` add, which is the next one; that of the tasks up to it is still to come
  abbrev pub Along : ℕ → Option ℕ → Type 0
  Along acc next = Traversed (is_on b y) f n acc (number_of next)

  pub along-start : {next : Option ℕ} → next ≡ task_numbered (last_to (is_on b y) n) → Along 0 next
  along-start first = traversed-start (is_on b y) f n (number_of-numbered first)

  module _ {acc k : ℕ} {next : Option ℕ} (so_far : Along acc next) (here : next ≡ Some k) where
    number : number_of next ≡ suc k
    number = ap number_of here

    back : k ≡ number_of next - 1
    back = omega (arith, number)

    pub along-task : k < n
    along-task = omega (arith, so_far.low, number)

    module _ {up : Option ℕ} (above : up ≡ task_numbered (last_to (is_on b (core b k)) k)) where
      upwards : number_of up ≡ last_to (is_on b y) k
      upwards = link_up b y k (so_far.passes k (omega (arith, number))) (number_of-numbered above)

      pub along-less : number_of up < number_of next
      along-less = omega (arith, upwards, last_to-low (is_on b y) k, number)

      pub along-turn : {acc' : ℕ} → acc' ≡ acc + f k → Along acc' up
      along-turn added =
          traversed-turn (is_on b y) f n so_far (omega (arith, number)) (added ∙ ap (λ (m : ℕ). acc + f m) back) (upwards ∙ ap (last_to (is_on b y)) back)

  pub along-end : {acc : ℕ} {next : Option ℕ} → Along acc next → next ≡ None → acc ≡ sum_where (is_on b y) f n
  along-end so_far none = traversed-end (is_on b y) f n so_far (omega (arith, ap number_of none))
