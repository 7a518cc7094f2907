-- K1 to K11 as document 01 prints them, computed by document 01's own words.
-- Assumes nothing.
use Prim.Native.Nat.{ℕ, ◌*◌, ◌^◌}
use mathlib.Core.List.{List, [], ◌∷◌}
use mathlib.Core.Path.{◌≡◌, refl}
use lib.ListN.{length}
use Rattle.folds.specs.Folds.{ceil_div, sum_to, max_to, count_to, any_to, first_from, tabulate, fill_to, same_list, only_if}
use Rattle.board.specs.Layout.{first_trace, first_instruction}
use Rattle.document01.specs.Document01.{Reply, value, times, late, spent, first_in, miss_count, useful_set, loads, trace_pd, bus_loads, trace_md, useful, PD, MD, ECB, ecb_word, figure, evicted, most_useful, γ, D', S, W, A, L, B, Q, higher_work, Sum, pass, after_passes, passes_needed, settled, first_late, settled_reply, overhead, analyse, times_after}
use Rattle.document01.specs.Cases.{K1, K2, K3, K4, K5, K6, K7, K8, K9, K10, K11}

-- a times buffer of three words, one more than K1's tasks; Analyse's answer with it, a scratch of n × n + 4n words and n records
abbrev lent : List ℕ
lent = 7 ∷ 7 ∷ 7 ∷ []

abbrev answer : List ℕ → Reply
answer b = analyse b (length lent) 12 2

-- the answer is times, with these passes, and the times buffer begins with these two times
abbrev Settles : List ℕ → ℕ → ℕ → ℕ → Type 0
Settles b time1 time2 passes = (answer b ≡ times passes) × (times_after b (answer b) lent ≡ time1 ∷ time2 ∷ 7 ∷ [])

-- MD of task 1, its ECB, whose sets are all below 64, and the sets useful at points 0, 1 and 2 of its trace, each as bits of a number
abbrev Figured : List ℕ → ℕ → ℕ → List ℕ → Type 0
Figured b md ecb points =
    ((figure b 0).md ≡ md)
    × ((figure b 0).ecb ≡ ecb ∷ 0 ∷ 0 ∷ 0 ∷ [])
    × (tabulate (λ p. sum_to (λ s. only_if (useful b 0 p s) 1 * 2 ^ s) 256) 3 ≡ points)

pub cases :
    Settles K1 35 29 4
    × Settles K2 40 29 5
    × Settles K3 35 29 4
    × (answer K4 ≡ late 1 4)
    × (answer (K5 3) ≡ spent)
    × Settles (K5 4) 35 29 4
    × Settles (K6 2) 35 34 4
    × Settles (K6 0) 35 34 4
    × Settles (K6 1) 35 34 4
    × Settles K7 40 29 3
    × Settles K8 49 35 4
    × Figured K9 2 3 (0 ∷ 1 ∷ 1 ∷ [])
    × Figured K10 3 1 (0 ∷ 0 ∷ 0 ∷ [])
    × (overhead (K11 4) 2 1 ≡ value 1)
    × (overhead (K11 5) 2 1 ≡ value 0)
unfolding ceil_div sum_to max_to count_to any_to first_from tabulate fill_to same_list first_trace first_instruction first_in miss_count useful_set loads trace_pd bus_loads trace_md useful PD MD ECB ecb_word figure evicted most_useful γ D' S W A L B Q higher_work Sum pass after_passes passes_needed settled first_late settled_reply overhead analyse
cases = ((refl, refl), (refl, refl), (refl, refl), refl, refl, (refl, refl), (refl, refl), (refl, refl), (refl, refl), (refl, refl), (refl, refl), (refl, refl, refl), (refl, refl, refl), refl, refl)
