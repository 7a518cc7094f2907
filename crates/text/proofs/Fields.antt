-- Lines put into a page field by field, and lines joined.
-- Assumes nothing.
use Prim.Native.Nat.{ℕ, ◌+◌}
use mathlib.Core.List.{List, [], ◌∷◌, ◌++◌, append_assoc, append-nil}
use mathlib.Core.Path.{◌≡◌, refl, sym}
use Rattle.folds.specs.Folds.{join_to}
use Rattle.folds.proofs.Joined.{join_to-none, join_to-next}
use Rattle.text.specs.Text.{line}

-- the last field of a line
pub put_last : (old field : List ℕ) → old ++ line (field ∷ []) ≡ old ++ (field ++ (10 ∷ []))
unfolding line
put_last old field = refl

-- a field before the others
pub put_more : (old field next : List ℕ) (rest : List (List ℕ)) → old ++ line (field ∷ next ∷ rest) ≡ (old ++ (field ++ (32 ∷ []))) ++ line (next ∷ rest)
unfolding line
put_more old field next rest = simp append_assoc

-- one after the other
pub put_then : (old first next : List ℕ) → old ++ (first ++ next) ≡ (old ++ first) ++ next
put_then old first next = sym (append_assoc old first next)

module _ (f : ℕ → List ℕ) (old : List ℕ) where
  -- lines joined: none, and one more
  pub joined_none : old ++ join_to f 0 ≡ old
  joined_none = rw (join_to-none f) (append-nil old)

  pub joined_next : (k : ℕ) → old ++ join_to f (k + 1) ≡ (old ++ join_to f k) ++ f k
  joined_next k = rw (join_to-next f k) (sym (append_assoc old (join_to f k) (f k)))

pub ruleset joined = (joined_none, joined_next)
