-- For the code: the first late task, and what goes to the times buffer.
-- Assumes nothing.
use Rattle.std.specs.Prelude.{ℕ, cond, List, Option, Some, None, ltb, get_or}
use Rattle.folds.specs.Folds.{fill_to}
use Rattle.passes.specs.Passes.{System, first_late}

-- the first late task, where one is late
unfoldable pub late_task : System → List ℕ → Option ℕ
late_task S R = cond (ltb (first_late S R) S.count) (Some (first_late S R)) None

-- the times buffer, which was `old`: R is copied to its front where no task is late
unfoldable pub delivered : System → List ℕ → List ℕ → List ℕ
delivered S R old = cond (ltb (first_late S R) S.count) old (fill_to (λ k. get_or R k 0) S.count old)
