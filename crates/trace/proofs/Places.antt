-- The traces of a board that passes its checks lie within it, and what the checks say of their words.
-- Assumes nothing.
use Prim.Native.Nat.{ℕ, ◌+◌, ◌-◌, ◌≤◌, ◌<◌}
use mathlib.Core.List.{List}
use mathlib.Core.Path.{◌≡◌, refl, ap, subst}
use native.Mathlib.Omega.{arith}
use Rattle.board.specs.Layout.{word, instructions, traces, fetches_at, works_at, first_instruction, trace_length, kind_of, block_of, first_data_block}
use Rattle.board.specs.Sound.{Sound}
use Rattle.board.proofs.Extents.{trace-fits}
use Rattle.trace.specs.Traces.{trace_of, fetch, work, data_block}
use Rattle.trace.specs.Places.{trace_at, Lies}

module _ (b : List ℕ) (sound : Sound b) (r : ℕ) (known : r < traces b) where
  pub trace-lies : Lies b (fetches_at b + first_instruction b r) (trace_length b r)
  trace-lies = record {
    header = omega (arith, sound.words);
    first = omega arith;
    room = omega (arith, sound.words, trace-fits b sound r known);
    short = (sound.trace_length r known).1;
  }

pub trace_of-is : (b : List ℕ) (r : ℕ) → trace_of b r ≡ trace_at b (fetches_at b + first_instruction b r) (trace_length b r)
unfolding trace_of
trace_of-is b r = refl

module _ (b : List ℕ) (start len : ℕ) (sound : Sound b) (lies : Lies b start len) (p : ℕ) (known : p < len) where
  -- instruction p of the trace among all instructions of the board
  abbrev among : ℕ
  among = start - fetches_at b + p

  within : among < instructions b
  within = omega (arith, sound.words, lies.room, lies.first)

  abbrev w : ℕ
  w = work (trace_at b start len) p

  work-there : word b (works_at b + among) ≡ w
  work-there =
      let place : works_at b + among ≡ start + instructions b + p = omega (arith, lies.first) in
      ap (word b) place

  pub fetch-bound : fetch (trace_at b start len) p < first_data_block
  fetch-bound =
      let place : fetches_at b + among ≡ start + p = omega (arith, lies.first) in
      subst (λ (i : ℕ). word b i < first_data_block) place (sound.fetch among within)

  pub kind-bound : kind_of w ≤ 2
  kind-bound = subst (λ (x : ℕ). kind_of x ≤ 2) work-there (sound.kind among within)

  pub data_block_placed : 1 ≤ kind_of w → first_data_block ≤ data_block (trace_at b start len) p
  data_block_placed = subst (λ (x : ℕ). 1 ≤ kind_of x → first_data_block ≤ block_of x) work-there (sound.data_block among within)
