-- For inner contracts only: what places that are not listed give is no more than the part holds, so that a loop may pass them over. Nothing here is to be believed.
use Rattle.std.specs.Prelude.{cond, ◌⊎◌, List, ℕ, ◌+◌, ◌*◌, ◌≤◌, ◌<◌, get_or}
use Rattle.std.specs.Int.Bits.{bit_or}
use Rattle.rules_fill.specs.declared.shapes.Propagator.{Propagator}
use Rattle.rules_fill.specs.declared.shapes.Remover.{Remover}
use Rattle.rules_fill.specs.Shapes.{touches, cleared, propagated, removes}
use Rattle.rules_listed.specs.Places.{Listed}

-- rules 1 to 3 of a row, whose point has n raised cells
pub record PropagateRest (w : ℕ) (F L : List ℕ) (n mask : ℕ) (by : Propagator) (B : List ℕ) : Type 0 where
  pub rest : (t : ℕ) → t < w → Listed L (2 * by.from * w) n t ⊎ (propagated mask by.avoid by.add by.up by.down t (get_or F (by.from * w + t) 0) ≤ get_or B (bit_or t by.add) 0)

-- rules 4 and 6 of a row of point x: the pairs of which none is raised
pub record RemoveRest (w : ℕ) (F L counts : List ℕ) (x : ℕ) (by : Remover) (B : List ℕ) : Type 0 where
  pub rest : (t u : ℕ) → t < w → u < w
      → (Listed L (2 * x * w) (get_or counts (2 * x) 0) t × Listed L ((2 * by.other + 1) * w) (get_or counts (2 * by.other + 1) 0) u)
      ⊎ ((Listed L (2 * by.other * w) (get_or counts (2 * by.other) 0) u × Listed L ((2 * x + 1) * w) (get_or counts (2 * x + 1) 0) t)
      ⊎ (removes by.mask by.add t (get_or F (x * w + t) 0) u (get_or F (by.other * w + u) 0) ≤ get_or B (bit_or (cleared t by.mask) u) 0))

-- rule 5, at the observing point x, which has n raised cells
pub record ClearRest (w : ℕ) (F L : List ℕ) (n mask x : ℕ) (B : List ℕ) : Type 0 where
  pub rest : (t : ℕ) → t < w → Listed L (2 * x * w) n t ⊎ (cond (touches mask t) (get_or F (x * w + t) 0) 0 ≤ get_or B (cleared t mask) 0)
