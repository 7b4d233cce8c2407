-- `rules_apply::application::gives_line` meets its contract: it compares what the rule gives, and nothing is given where the rule does not fire.
use mathlib.Core.Path.{◌≡◌, refl}
use mathlib.Core.Bool.{Bool, true, false, ◌&&◌}
use lib.Dec.{eqb}
use Rattle.std.specs.Prelude.{Some}
use Rattle.std.specs.Bool.{then_some}
use Rattle.std.specs.Option.{option_eq}
use Rattle.std.proofs.Math.Bool.{and_assoc}
use Rattle.plan.specs.Plan.{Plan}
use Rattle.rules.specs.declared.Line.{Line}
use Rattle.rules.specs.declared.Rule.{Rule}
use Rattle.rules.specs.Rules.{fires, result}
use Rattle.rules_apply.specs.Applying.{applied, is_same_line, gives_line_of}
use Rattle.rules_apply.proofs.application.gives_line.Goals as goal

-- the derived `==`
abbrev same : Line → Line → Bool
same k l = eqb k.point l.point && (eqb k.set l.set && (eqb k.label l.label && eqb k.wait l.wait))

same_given : (b : Bool) (k l : Line) → option_eq same (then_some b k) (Some l) ≡ (b && is_same_line k l)
unfolding is_same_line
same_given true k l = simp (and_assoc) refl
same_given false k l = refl

gives_just : (P : Plan) (r : Rule) (l m k : Line) → option_eq same (applied P r l m) (Some k) ≡ gives_line_of P r l m k
unfolding gives_line_of
gives_just P r l m k = same_given (fires P r l m) (result P r l m) k

pub returns : goal.returns
returns c = rw (c.eq.ensures, c.apply.ensures) (gives_just _ _ _ _ _)
