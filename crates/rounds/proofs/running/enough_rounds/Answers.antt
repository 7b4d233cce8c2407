-- The limit that serves every plan bounds the product, so that it fits 64 bits.
use mathlib.Core.Path.{◌≡◌}
use mathlib.Core.List.{List}
use Prim.Native.Nat.{ℕ, ◌+◌, ◌*◌, ◌≤◌}
use native.Mathlib.Omega.{arith}
use Rattle.plan.specs.Plan.{cells}
use Rattle.plan.specs.Layout.{plan_of}
use Rattle.plan.specs.Refusal.{Accepted}
use Rattle.plan.proofs.Ranges.{sizes_few}
use Rattle.rounds.specs.Meaning.{serving_limit, enough_rounds}
use Rattle.rounds.proofs.Meanings.{serves}
use Rattle.rounds.proofs.running.enough_rounds.Goals as goal

-- the code's numbers: the cells, the horizon and M
computed : (bs : List ℕ) (n h m : ℕ) → n ≡ cells (plan_of bs) → h ≡ (plan_of bs).horizon → m ≡ (plan_of bs).largest → n * (h + m + 1) + 1 ≡ enough_rounds (plan_of bs)
computed bs n h m en eh em = rw (en, eh, em)

small : (bs : List ℕ) → Accepted bs → (n h m : ℕ) → n ≡ cells (plan_of bs) → h ≡ (plan_of bs).horizon → m ≡ (plan_of bs).largest → n * (h + m + 1) + 1 ≤ serving_limit
small bs accepted n h m en eh em = rw (computed bs n h m en eh em) (serves bs accepted)

pub cells-requires : goal.cells-requires
cells-requires c = sizes_few c.args.plan.now c.requires

pub overflow_mul-result : goal.overflow_mul-result
overflow_mul-result c = omega (arith, small c.args.plan.now c.requires _ _ _ c.cells.ensures c.horizon.ensures.0 c.largest.ensures.0)

pub overflow_add-result-3 : goal.overflow_add-result-3
overflow_add-result-3 c = omega (arith, small c.args.plan.now c.requires _ _ _ c.cells.ensures c.horizon.ensures.0 c.largest.ensures.0)

pub returns : goal.returns
returns c = computed _ _ _ _ c.cells.ensures c.horizon.ensures.0 c.largest.ensures.0
