-- For the theorems about K1 to K11: the boards of K1 to K8, which have no cache.
-- Assumes nothing.
use Rattle.std.specs.Prelude.{ℕ, List, [], ◌∷◌, set}

abbrev pub K1 : List ℕ
K1 =
    2 ∷ 2 ∷ 2 ∷ 3 ∷ 0 ∷ 3 ∷ 1 ∷ 5 ∷ 0 ∷ 0 ∷ 0 ∷ 0 ∷ 100 ∷ 0 ∷ 0 ∷ 0 ∷ 0 ∷ 0 ∷ 0 ∷ 0
    ∷ 1 ∷ 100 ∷ 100 ∷ 1 ∷ 0
    ∷ 2 ∷ 60 ∷ 60 ∷ 1 ∷ 0
    ∷ 2 ∷ 1
    ∷ 0 ∷ 1 ∷ 2
    ∷ 131072 ∷ 268664832 ∷ 537165825
    ∷ []

abbrev pub K2 : List ℕ
K2 = set (set K1 26 50) 27 50

abbrev pub K3 : List ℕ
K3 = set K1 22 35

abbrev pub K4 : List ℕ
K4 = set K1 22 34

-- K1 with another pass limit
abbrev pub K5 : ℕ → List ℕ
K5 limit = set K1 12 limit

-- K1 on another bus, word 6 being 0
abbrev pub K6 : ℕ → List ℕ
K6 bus = set (set K1 5 bus) 6 0

abbrev pub K7 : List ℕ
K7 = set K1 5 4

abbrev pub K8 : List ℕ
K8 = set (set (set (set K7 8 2) 9 20) 10 1) 11 3

-- K8 with p refreshes put off
abbrev pub K8_put_off : ℕ → List ℕ
K8_put_off p = set K8 16 p

-- K1 with these jitters; and with both tasks on core 1
abbrev pub K1_jitter : ℕ → ℕ → List ℕ
K1_jitter first second = set (set K1 24 first) 29 second

abbrev pub K1_one_core : ℕ → ℕ → List ℕ
K1_one_core first second = set (K1_jitter first second) 25 1
