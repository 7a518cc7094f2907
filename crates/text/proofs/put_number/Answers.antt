-- `text::put_number` meets its contract: the kit's digits are those of `decimal`.
use Rattle.std.proofs.Common.{ℕ, List, arith, rules, ◌≡◌, ◌+◌, ◌^◌, ◌<◌, ◌≤◌, ◌∙◌, [], ◌∷◌, ◌++◌, length, length-append, ap}
use mathlib.Core.Logic.{inl, inr}
use Rattle.folds.proofs.Numbers.{le-or-lt}
use Rattle.text.specs.Text.{decimal}
use Rattle.text.proofs.Digits.{decimal-digits, decimal-bound, ended-bound}
use Rattle.text.proofs.put_number.Goals as goal

-- the room for the digits of a word, and of any number
room : (x n N : ℕ) (end : ℕ) (digits : List ℕ) → digits ≡ decimal x → x < 2 ^ 64 → (x < 2 ^ 32 → n + 10 < N) → (2 ^ 32 ≤ x → n + 20 < N) → n + length digits < N
room x n N end digits e fits word more = elim (le-or-lt (2 ^ 32) x) [
  | inl large ↦ omega (arith, more large, ap length e, decimal-bound 19 x (omega arith))
  | inr small ↦ omega (arith, word small, ap length e, decimal-bound 9 x (omega arith))
]

pub put_field-requires : goal.put_field-requires
put_field-requires g c =
    let d = c.decimal-count in
    (search rules, room c.args.x (length c.args.page.now.items) g.row.N c.args.end _ (d.ensures.digits ∙ decimal-digits d.result _ d.ensures.len) c.ranges.x.fits c.requires.word c.requires.more)

pub returns-clause-put : goal.returns-clause-put
returns-clause-put g c = let d = c.decimal-count in
    rw (d.ensures.digits ∙ decimal-digits d.result _ d.ensures.len) at c.put_field.ensures

pub returns-clause-word : goal.returns-clause-word
returns-clause-word g c = λ word.
    let a = c.args in
    omega (arith, ap length (returns-clause-put g c), length-append a.page.now.items (decimal a.x ++ (a.end ∷ [])), ended-bound 9 a.x a.end (omega arith))
