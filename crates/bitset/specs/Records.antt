-- For the code: records of a buffer, a few words each: how the code keeps sets.
-- Assumes nothing.
use Rattle.std.specs.Prelude.{ℕ, ◌+◌, ◌*◌, List, get_or}
use Rattle.folds.specs.Folds.{tabulate}

-- record q of n words each: those from n × q on
abbrev pub record_at : ℕ → List ℕ → ℕ → List ℕ
record_at n buffer q = tabulate (λ k. get_or buffer (n * q + k) 0) n
