-- For the theorems about K1 to K11: their boards, as document 01 prints them. Of K9 to K11 it leaves the rest of the board open: one core, bus 2, d = 5,
-- T = D = 100, limit 100, no refresh.
-- Assumes nothing.
use Rattle.std.specs.Prelude.{ℕ, List, [], ◌∷◌, set}

abbrev pub K1 : List ℕ
K1 =
    2 ∷ 2 ∷ 2 ∷ 3 ∷ 0 ∷ 3 ∷ 1 ∷ 5 ∷ 0 ∷ 0 ∷ 0 ∷ 0 ∷ 100 ∷ 0 ∷ 0 ∷ 0 ∷ 0 ∷ 0 ∷ 0 ∷ 0
    ∷ 1 ∷ 100 ∷ 100 ∷ 1 ∷ 0
    ∷ 2 ∷ 60 ∷ 60 ∷ 1 ∷ 0
    ∷ 2 ∷ 1
    ∷ 0 ∷ 1 ∷ 2
    ∷ 131072 ∷ 268664832 ∷ 537165825
    ∷ []

abbrev pub K2 : List ℕ
K2 = set (set K1 26 50) 27 50

abbrev pub K3 : List ℕ
K3 = set K1 22 35

abbrev pub K4 : List ℕ
K4 = set K1 22 34

-- K1 with another pass limit
abbrev pub K5 : ℕ → List ℕ
K5 limit = set K1 12 limit

-- K1 on another bus, word 6 being 0
abbrev pub K6 : ℕ → List ℕ
K6 bus = set (set K1 5 bus) 6 0

abbrev pub K7 : List ℕ
K7 = set K1 5 4

abbrev pub K8 : List ℕ
K8 = set (set (set (set K7 8 2) 9 20) 10 1) 11 3

-- a cache of four sets, and one task that fetches blocks 0, 1 and 0, execute only; and 0, 4 and 0
abbrev pub K9 : List ℕ
K9 =
    1 ∷ 1 ∷ 1 ∷ 3 ∷ 2 ∷ 2 ∷ 0 ∷ 5 ∷ 0 ∷ 0 ∷ 0 ∷ 0 ∷ 100 ∷ 4 ∷ 0 ∷ 0 ∷ 0 ∷ 0 ∷ 0 ∷ 0
    ∷ 1 ∷ 100 ∷ 100 ∷ 1 ∷ 0
    ∷ 3
    ∷ 0 ∷ 1 ∷ 0
    ∷ 0 ∷ 0 ∷ 0
    ∷ []

abbrev pub K10 : List ℕ
K10 = set K9 27 4

-- K9's trace as task 2, and task 1 on the same core fetching only block m
abbrev pub K11 : ℕ → List ℕ
K11 m =
    1 ∷ 2 ∷ 2 ∷ 4 ∷ 2 ∷ 2 ∷ 0 ∷ 5 ∷ 0 ∷ 0 ∷ 0 ∷ 0 ∷ 100 ∷ 4 ∷ 0 ∷ 0 ∷ 0 ∷ 0 ∷ 0 ∷ 0
    ∷ 1 ∷ 100 ∷ 100 ∷ 1 ∷ 0
    ∷ 1 ∷ 100 ∷ 100 ∷ 1 ∷ 0
    ∷ 1 ∷ 3
    ∷ m ∷ 0 ∷ 1 ∷ 0
    ∷ 0 ∷ 0 ∷ 0 ∷ 0
    ∷ []
