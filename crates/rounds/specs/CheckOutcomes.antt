-- What the check answers and what the lent tables then hold (9).
use Rattle.std.specs.Prelude.{Bool, true, false, not, ◌||◌, List, ◌++◌, ℕ, ltb, eqb, length, drop}
use Rattle.plan.specs.Plan.{Plan, cells}
use Rattle.plan.specs.Layout.{plan_of}
use Rattle.plan.specs.Refusal.{refusal}
use Rattle.rounds_making.specs.Rounds.{zeros}
use Rattle.rounds_making.specs.Outcomes.{Outcome, refused, pick, run_outcome, run_table}

-- 9.4: a lent table is shorter than the cells
abbrev pub is_too_short : Plan → List ℕ → List ℕ → Bool
is_too_short P F G = ltb (length F) (cells P) || ltb (length G) (cells P)

-- 9.2, 9.5: the check of a plan with two lent tables F and G and a limit
unfoldable pub check_outcome : List ℕ → List ℕ → List ℕ → ℕ → Outcome
check_outcome bs F G limit =
    pick (not (eqb (refusal bs) 0)) (refused (refusal bs))
    (pick (is_too_short (plan_of bs) F G) (refused 6) (run_outcome (plan_of bs) (zeros (plan_of bs)) limit))

abbrev pub pick_table : Bool → List ℕ → List ℕ → List ℕ
pick_table true a b = a
pick_table false a b = b

-- 9.3, 9.5: what a lent table L then holds: untouched where refused, else that round's table in its first cells and the later entries as they were
unfoldable pub check_table : List ℕ → List ℕ → List ℕ → ℕ → List ℕ → List ℕ
check_table bs F G limit L =
    pick_table (not (eqb (refusal bs) 0) || is_too_short (plan_of bs) F G) L
    (run_table (plan_of bs) (zeros (plan_of bs)) limit ++ drop (cells (plan_of bs)) L)
