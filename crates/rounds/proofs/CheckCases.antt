-- The cases of the check: what it answers and leaves where the rounds run, where the plan is refused, and where a lent table is too short.
use mathlib.Core.Path.{◌≡◌, refl, ◌∙◌}
use mathlib.Core.Bool.{true, false}
use mathlib.Core.List.{List, ◌++◌}
use Prim.Native.Nat.{ℕ, ◌≤◌, ◌<◌}
use native.Mathlib.Omega.{arith}
use lib.Dec.{eqb}
use lib.ListN.{length, drop}
use borrow.Author.Tests.{lt-ltb, le-ltb, eq-eqb, ne_eqb}
use Rattle.plan.specs.Plan.{Plan, cells}
use Rattle.plan.specs.Layout.{plan_of}
use Rattle.plan.specs.Numbers.{number_of}
use Rattle.plan.specs.Refusal.{Accepted, refusal}
use Rattle.plan.specs.declared.refusal.Refusal.{Refusal}
use Rattle.rounds_making.specs.Rounds.{zeros}
use Rattle.rounds_making.specs.Outcomes.{refused, run_outcome, run_table}
use Rattle.rounds.specs.CheckOutcomes.{is_too_short, check_outcome, check_table}

module _ (bs F G : List ℕ) (limit : ℕ) where
  -- ---- where nothing is refused
  module _ (accepted : Accepted bs) (f : cells (plan_of bs) ≤ length F) (g : cells (plan_of bs) ≤ length G) where
    pub check_runs : check_outcome bs F G limit ≡ run_outcome (plan_of bs) (zeros (plan_of bs)) limit
    unfolding check_outcome
    check_runs = rw (eq-eqb (refusal bs) 0 accepted, le-ltb (length F) (cells (plan_of bs)) f, le-ltb (length G) (cells (plan_of bs)) g) refl

    pub check_leaves : (L : List ℕ) → check_table bs F G limit L ≡ run_table (plan_of bs) (zeros (plan_of bs)) limit ++ drop (cells (plan_of bs)) L
    unfolding check_table
    check_leaves L = rw (eq-eqb (refusal bs) 0 accepted, le-ltb (length F) (cells (plan_of bs)) f, le-ltb (length G) (cells (plan_of bs)) g) refl

  -- ---- where it refuses
  module _ (k : ℕ) (e : k ≡ refusal bs) (n : k ≡ 0 → ⊥) where
    turned_down : eqb (refusal bs) 0 ≡ false
    turned_down = ne_eqb (refusal bs) 0 (λ z. n (e ∙ z))

    pub refused_outcome : refused k ≡ check_outcome bs F G limit
    unfolding check_outcome
    refused_outcome = rw (turned_down, e) refl

    pub refused_table : (L : List ℕ) → L ≡ check_table bs F G limit L
    unfolding check_table
    refused_table L = rw turned_down refl

  module _ (a : Accepted bs) (h : is_too_short (plan_of bs) F G ≡ true) where
    pub short_outcome : refused 6 ≡ check_outcome bs F G limit
    unfolding check_outcome
    short_outcome = rw (eq-eqb (refusal bs) 0 a, h) refl

    pub short_table : (L : List ℕ) → L ≡ check_table bs F G limit L
    unfolding check_table
    short_table L = rw (eq-eqb (refusal bs) 0 a, h) refl

-- no refusal has the number 0
pub number_some : (r : Refusal) → number_of r ≡ 0 → ⊥
number_some r e = grind arith

pub short_first : (P : Plan) (F G : List ℕ) → length F < cells P → is_too_short P F G ≡ true
short_first P F G h = rw (lt-ltb (length F) (cells P) h) refl

pub short_second : (P : Plan) (F G : List ℕ) → cells P ≤ length F → length G < cells P → is_too_short P F G ≡ true
short_second P F G f h = rw (le-ltb (length F) (cells P) f, lt-ltb (length G) (cells P) h) refl
