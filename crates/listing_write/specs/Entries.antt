-- For inner contracts only: what the functions that write a round's lines are lent and leave. Nothing here is to be believed.
use Rattle.std.specs.Prelude.{◌≡◌, List, ℕ, ◌+◌, ◌<◌, length, get_or, Option, Some, None}
use Rattle.plan.specs.Plan.{Plan, cells}
use Rattle.plan.specs.Layout.{plan_of}
use Rattle.rules.specs.declared.Ground.{Ground}
use Rattle.rules.specs.declared.Line.{Line}
use Rattle.rules.specs.Tables.{next}
use Rattle.rules.specs.Derivations.{InPlan}
use Rattle.listing_write.specs.Entry.{ListingBytes, LinePut}
use Rattle.listing_write.specs.Progress.{all_raised, Exact, CellsNumbered}

-- what a search found, among the plan's rules and cells
abbrev pub FoundIn : Plan → Option Ground → Type 0
FoundIn P (Some g) = InPlan P g.by × (g.first < cells P) × (g.second < cells P)
FoundIn P None = Unit {0}

-- with the 16-bit table
pub record FoundReady (plan index : List ℕ) (f : Option Ground) : Type 0 where
  pub sized : length index ≡ cells (plan_of plan)
  pub within : FoundIn (plan_of plan) f

-- a ground with the numbers of its parents' cells
abbrev pub numbered_by : List ℕ → Ground → Ground
numbered_by I g = record { by = g.by; first = get_or I g.first 0; second = get_or I g.second 0 }

-- line i written by what was found
abbrev pub PutFound : Plan → ℕ → ℕ → Line → List ℕ → Option Ground → List ℕ → List ℕ → Type 0
PutFound P m i l I (Some g) out out' = LinePut P m i l (numbered_by I g) out out'
PutFound P m i l I None out out' = out' ≡ out

pub record PutBy (P : Plan) (m i : ℕ) (l : Line) (I : List ℕ) (f : Option Ground) (out out' : List ℕ) : Type 0 where
  pub put : PutFound P m i l I f out out'

-- a round from first to second is made, `at` of the m lines are written, and the 16-bit table is that of the round before
pub record RoundToList (plan marks : List ℕ) (horizon : ℕ) (first second index out : List ℕ) (m at : ℕ) : Type 0 where
  pub exact : Exact plan marks horizon first second
  pub is_next : second ≡ next (plan_of plan) first
  pub numbers : CellsNumbered (plan_of plan) first index out at
  pub listing : ListingBytes m out

-- a round from T to U raised cell c
abbrev pub Raised : List ℕ → List ℕ → ℕ → Type 0
Raised T U c = get_or T c 0 < get_or U c 0

-- room for the line of cell c, should the round have raised it
pub record CellReady (plan marks : List ℕ) (horizon : ℕ) (first second index out : List ℕ) (m i c : ℕ) : Type 0 where
  pub made : RoundToList plan marks horizon first second index out m i
  pub room : i < m
  pub inside : c < cells (plan_of plan)

-- room for the lines of all cells that the round raised, and for one more
pub record CellsReady (plan marks : List ℕ) (horizon : ℕ) (first second index out : List ℕ) (m at : ℕ) : Type 0 where
  pub made : RoundToList plan marks horizon first second index out m at
  pub room : at + length (all_raised (plan_of plan) first second) < m
