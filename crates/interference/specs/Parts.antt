-- The six parts of a sum as the struct that the calls hand back.
-- Assumes nothing.
use Rattle.std.specs.Prelude.{ℕ, List, [], ◌∷◌}
use Rattle.board.specs.Layout.{bus}
use Rattle.sums.specs.Sums.{own_accesses, interference, higher_work}
use Rattle.sums.specs.SixParts.{own_work, own_access_part, interference_part, blocking_part, refresh_part}
use Rattle.interference.specs.declared.SumParts.{SumParts}
use Rattle.interference.specs.declared.Counted.{Counted}

-- task i at the times R
unfoldable pub sum_parts : List ℕ → List ℕ → ℕ → SumParts
sum_parts b R i = record {
  own_work = own_work b R i;
  higher_work = higher_work b R i;
  core_accesses = own_access_part b R i;
  other_accesses = interference_part b R i;
  blocking_access = blocking_part b R i;
  refreshes = refresh_part b R i;
}

-- the six numbers of such a struct, in document 02's order
abbrev pub listed : SumParts → List ℕ
listed p = p.own_work ∷ p.higher_work ∷ p.core_accesses ∷ p.other_accesses ∷ p.blocking_access ∷ p.refreshes ∷ []

-- for the code: what a sum counts on its way: the work of higher tasks, S and the interference
abbrev pub counts_of : List ℕ → List ℕ → ℕ → Counted
counts_of b R i = record { higher_work = higher_work b R i; core_accesses = own_accesses b R i; other_accesses = interference b R i (bus b) }
