-- `Caches::of` meets its contract.
use native.Mathlib.Omega.{arith}
use Rattle.trace.proofs.Caches.{caches-one, caches-two}
use Rattle.trace.proofs.cache.Caches.of.Goals as goal

pub returns-then-cache_count-eq2 : goal.returns-then-cache_count-eq2
returns-then-cache_count-eq2 c =
    caches-two _ _ (omega arith) (omega arith) (omega arith) _ (omega arith) (omega arith) (omega arith) (omega arith)

pub returns-else-cache_count-eq2 : goal.returns-else-cache_count-eq2
returns-else-cache_count-eq2 c = caches-one _ _ (omega arith) (omega arith) (omega arith) (λ k. omega arith)
