-- The positions (17.5) that an order of the points gives: rank says how early a point comes.
use Rattle.std.specs.Prelude.{cond, ℕ, suc, ltb}
use Rattle.plan.specs.Counting.{count}
use Rattle.plan.specs.Plan.{Plan}
use Rattle.plan.specs.Refusal.{differs}

-- the observing points that come before x, counted
unfoldable pub observed_before : Plan → (ℕ → ℕ) → ℕ → ℕ
observed_before P rank x = count (λ j. ltb (rank (P.observer j)) (rank x)) P.propositions

-- 17.5: ends stand at 0, the observing points at 1 to p in their order, any other point at p + 1
unfoldable pub position_by : Plan → (ℕ → ℕ) → ℕ → ℕ
position_by P rank x =
    cond (differs P.finish x P.links)
    (cond (differs P.observer x P.propositions) (suc P.propositions) (suc (observed_before P rank x)))
    0
