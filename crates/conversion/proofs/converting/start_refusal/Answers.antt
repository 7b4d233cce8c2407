-- `conversion::converting::start_refusal` meets its contract: 2 comes first, then the length, then all else.
use Rattle.std.proofs.Common.{rules}
use mathlib.Core.Path.{◌≡◌}
use mathlib.Core.Bool.{Bool}
use native.Mathlib.Omega.{arith}
use lib.Dec.{eqb}
use Rattle.std.specs.Prelude.{Result, Err}
use Rattle.std.specs.Result.{result_eq}
use Rattle.plan.specs.declared.refusal.Refusal.{Refusal}
use Rattle.plan.specs.declared.refusal.Refusal.TheVariants.{Sizes}
use Rattle.plan.specs.contracts.refusal.RefusalPartialEq.TheImpl.{eq-value}
use Rattle.plan.specs.Numbers.{refusal_number}
use Rattle.conversion.specs.Conversion.{start_refusal}
use Rattle.conversion.proofs.converting.start_refusal.Goals as goal

is_sizes : (E : Unit {0} → Unit {0} → Bool) (r : Result (Unit {0}) Refusal) → result_eq E eq-value.it r (Err Sizes) ≡ eqb (refusal_number r) 2
is_sizes E r = search rules

pub returns-then-plan-end : goal.returns-then-plan-end
unfolding start_refusal
returns-then-plan-end c = grind (arith, is_sizes)

pub returns : goal.returns
unfolding start_refusal
returns c = grind (arith, is_sizes)
