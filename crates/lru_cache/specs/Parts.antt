-- For the theorems: the blocks of one cache among the loads of a run. No contract cites it; proofs/Parts.antt proves that a cache whose blocks alone lie in its
-- sets works as if only they were loaded.
-- Assumes nothing.
use Rattle.std.specs.Prelude.{ℕ, Bool, cond, List, [], ◌∷◌}

-- those of the list that pass the test, in order
unfoldable pub passing : (ℕ → Bool) → List ℕ → List ℕ
passing test [] = []
passing test (x ∷ xs) = cond (test x) (x ∷ passing test xs) (passing test xs)
