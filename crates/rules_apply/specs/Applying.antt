-- Applying a rule to its parents (6, 11.4): what it gives, or nothing.
use Rattle.std.specs.Prelude.{Bool, ◌&&◌, eqb, Option}
use Rattle.std.specs.Bool.{then_some}
use Rattle.plan.specs.Plan.{Plan}
use Rattle.rules.specs.declared.Line.{Line}
use Rattle.rules.specs.declared.Rule.{Rule}
use Rattle.rules.specs.Rules.{fires, result}

-- 6: the rule's line where the rule fires
abbrev pub applied : Plan → Rule → Line → Line → Option Line
applied P r l m = then_some (fires P r l m) (result P r l m)

-- 11.4: two lines agree in point, set, label and wait
unfoldable pub is_same_line : Line → Line → Bool
is_same_line k l = eqb k.point l.point && eqb k.set l.set && eqb k.label l.label && eqb k.wait l.wait

-- 11.4: the rule gives just the line k
unfoldable pub gives_line_of : Plan → Rule → Line → Line → Line → Bool
gives_line_of P r l m k = fires P r l m && is_same_line (result P r l m) k
