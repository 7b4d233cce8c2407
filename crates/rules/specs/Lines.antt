-- Lines and cells (5). The record Line (5.1) is the code's struct.
use Rattle.std.specs.Prelude.{List, [], ◌∷◌, map, ℕ, zero, suc, ◌+◌, ◌*◌, ◌/◌, ◌%◌, ◌^◌, get_or}
use Rattle.plan.specs.Plan.{Plan}
use Rattle.rules.specs.declared.Line.{Line}

-- the n numbers from i on
abbrev pub from_to : ℕ → ℕ → List ℕ
from_to i zero = []
from_to i (suc n) = i ∷ from_to (suc i) n

abbrev pub below : ℕ → List ℕ
below n = from_to 0 n

-- 5.2, 7.2: the cell that a line belongs to
abbrev pub cell_of : Plan → Line → ℕ
cell_of P l = (l.point * 2 ^ P.links + l.set) * 4 ^ P.propositions + l.label

-- 5.2, 5.4: the line of cell c, with the wait that a table holds there
abbrev pub line_at : Plan → List ℕ → ℕ → Line
line_at P T c = record { point = c / 4 ^ P.propositions / 2 ^ P.links; set = c / 4 ^ P.propositions % 2 ^ P.links; label = c % 4 ^ P.propositions; wait = get_or T c 0 }

-- 5.3: the starting line of a point, and those of a plan
abbrev pub starting_line : ℕ → Line
starting_line x = record { point = x; set = 0; label = 0; wait = 0 }

abbrev pub starting : Plan → List Line
starting P = map starting_line (below P.points)
