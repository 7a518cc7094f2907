-- For the code: what a mark does to the numbers of useful blocks. A mark is 4 × set + 2 × hit + kept: mod 4 it is 1 where its set has one useful block
-- more after it, 2 where it has one less, and 0 or 3 where nothing changes.
-- Assumes nothing.
use Rattle.std.specs.Prelude.{ℕ, ◌+◌, ◌/◌, ◌%◌, ◌<◌, ◌&&◌, List, ◌≡◌, eqb}
use Rattle.folds.specs.Folds.{only_if}
use Rattle.counts.specs.Planes.{sets_of, count_of}

-- how many blocks set s has more, and how many it has less
abbrev pub adds : ℕ → ℕ → ℕ
adds mark s = only_if (eqb (mark / 4) s && eqb (mark % 4) 1) 1

abbrev pub takes : ℕ → ℕ → ℕ
takes mark s = only_if (eqb (mark / 4) s && eqb (mark % 4) 2) 1

-- the numbers of live' are those of live after the mark
abbrev pub MarkApplied : ℕ → List ℕ → ℕ → ℕ → List ℕ → Type 0
MarkApplied c live planes mark live' = (s : ℕ) → s < sets_of c → count_of c live' 0 planes s + takes mark s ≡ count_of c live 0 planes s + adds mark s
