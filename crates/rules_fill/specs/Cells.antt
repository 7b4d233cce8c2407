-- For inner contracts only: what the loops over a point's cells are lent, where a point has w cells. Nothing here is to be believed: the whole makes `next_part`.
use Rattle.std.specs.Prelude.{◌≡◌, false, List, ℕ, ◌+◌, ◌-◌, ◌*◌, ◌^◌, ◌≤◌, ◌<◌, length}
use Rattle.std.specs.Int.Bits.{bit_or}
use Rattle.plan.specs.Label.{Marks}
use Rattle.rules_fill.specs.declared.shapes.Propagator.{Propagator}
use Rattle.rules_fill.specs.declared.shapes.Remover.{Remover}
use Rattle.rules_fill.specs.Steps.{steps}
use Rattle.rules_fill.specs.Shapes.{touches, remove_step}
use Rattle.rules_fill.specs.Parts.{AtMost}

-- the place joined with any of w places is one of them, and so are any two of them joined
abbrev pub JoinsIn : ℕ → ℕ → Type 0
JoinsIn w place = (u : ℕ) → u < w → bit_or place u < w

abbrev pub AllJoin : ℕ → Type 0
AllJoin w = (t u : ℕ) → t < w → u < w → bit_or t u < w

-- a mask that is a run of bits, the lowest of them, and a width of whole blocks: of a block's mask + low places just the first low have no bit of the mask
pub record Run (low mask w : ℕ) : Type 0 where
  -- how many bits lie below the run, in it and above it
  pub below : ℕ
  pub bits : ℕ
  pub above : ℕ
  pub low_is : low ≡ 2 ^ below
  pub block_is : mask + low ≡ 2 ^ (bits + below)
  pub width_is : w ≡ 2 ^ above * (mask + low)

-- ---- rules 1 to 3
-- the marks, the bits of a label, a table with the cells of the row's point, and a part of w cells, in which the bits that the row adds stay
pub record PropagatorLent (marks first part : List ℕ) (w mask : ℕ) (by : Propagator) : Type 0 where
  pub marked : Marks marks
  pub mask_small : mask < 256
  pub bound : AtMost 4000000000 first
  pub down_small : by.down < 65536
  pub from_in : by.from * w + w ≤ length first
  pub long_part : w ≤ length part
  pub joins : (t : ℕ) → t < w → bit_or t by.add < w

-- ---- rules 4 and 6
-- a table with the cells of the row's other point, a part of w cells, and a run of bits to remove
pub record RemoverLent (first part : List ℕ) (w : ℕ) (by : Remover) : Type 0 where
  pub other_in : by.other * w + w ≤ length first
  pub long_part : w ≤ length part
  pub run : Run by.low by.mask w
  pub add_small : by.add < 65536

-- from the other point's cell at c, where its cells start at base
pub record RemoveAtLent (first part : List ℕ) (base : ℕ) (by : Remover) (place c : ℕ) : Type 0 where
  pub cell_in : base + c < length first
  pub joined_in : bit_or place c < length part
  pub free : touches by.mask c ≡ false

-- from its cells from lo on and below hi
pub record RemoveRunLent (first part : List ℕ) (base : ℕ) (by : Remover) (place lo hi : ℕ) : Type 0 where
  pub in_order : lo ≤ hi
  pub cells_in : base + hi ≤ length first
  pub joined_in : (c : ℕ) → c < hi → bit_or place c < length part
  pub free : (c : ℕ) → lo ≤ c → c < hi → touches by.mask c ≡ false

-- the step of a row, and its steps from lo on and below hi
abbrev pub remove_step_by : ℕ → List ℕ → Remover → ℕ → ℕ → ℕ → List ℕ → List ℕ
remove_step_by m A by place w u = remove_step m A by.other by.mask by.add place w u

abbrev pub remove_steps_by : ℕ → List ℕ → Remover → ℕ → ℕ → ℕ → ℕ → List ℕ → List ℕ
remove_steps_by m A by place w lo hi = steps (λ i. remove_step_by m A by place w (lo + i)) (hi - lo)
