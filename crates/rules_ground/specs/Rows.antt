-- For inner contracts only: what the search knows of a rule's row. Nothing here is to be believed.
use Rattle.std.specs.Prelude.{◌≡◌, ℕ, ◌+◌, ◌*◌, ◌%◌, ◌^◌, ◌<◌}
use Rattle.plan.specs.Plan.{Plan}
use Rattle.rules.specs.declared.Line.{Line}
use Rattle.rules.specs.declared.Rule.{Rule}
use Rattle.rules.specs.declared.Rule.TheVariants.{Propagation, LowerCase, UpperCase, LetterRemoval, OwnLiteral, LiteralRemoval}
use Rattle.rules.specs.Rules.{constraint_of}
use Rattle.rules_fill.specs.Parents.{first_point, second_point}
use Rattle.rules_fill.specs.Shapes.{link_bit, digit_mask}
use Rattle.rules_ground.specs.declared.Row.{Row}

-- a line's place among its point's cells
abbrev pub place_of : Plan → Line → ℕ
place_of P l = l.set * 4 ^ P.propositions + l.label

-- the same with its set and label cut to the plan's
abbrev pub cut_place : Plan → Line → ℕ
cut_place P l = l.set % 2 ^ P.links * 4 ^ P.propositions + l.label % 4 ^ P.propositions

-- the bits that a rule removes from its first parent's place
abbrev pub removed_bits : Plan → Rule → ℕ
removed_bits P (Propagation e) = 0
removed_bits P (LowerCase i) = 0
removed_bits P (UpperCase i) = 0
removed_bits P (LetterRemoval i) = link_bit P.propositions i
removed_bits P (OwnLiteral j) = digit_mask j
removed_bits P (LiteralRemoval j) = digit_mask j

-- its weight, up less down: a rule of one parent takes it from the wait, one of two adds down to the second wait
abbrev pub up_of : Plan → Rule → ℕ
up_of P (Propagation e) = (constraint_of P e).up
up_of P (LowerCase i) = P.least i
up_of P (UpperCase i) = 0
up_of P (LetterRemoval i) = 0
up_of P (OwnLiteral j) = 0
up_of P (LiteralRemoval j) = 0

abbrev pub down_of : Plan → Rule → ℕ
down_of P (Propagation e) = (constraint_of P e).down
down_of P (LowerCase i) = 0
down_of P (UpperCase i) = P.most i
down_of P (LetterRemoval i) = P.least i
down_of P (OwnLiteral j) = 0
down_of P (LiteralRemoval j) = 0

-- the row of a rule; rules 4 to 6 have any first point
pub record RowOf (P : Plan) (by : Rule) (row : Row) : Type 0 where
  pub first_is : row.first ≡ first_point P by row.first
  pub second_is : row.second ≡ second_point P by
  pub removed_is : row.removed ≡ removed_bits P by
  pub up_is : row.up ≡ up_of P by
  pub down_is : row.down ≡ down_of P by
  pub down_small : row.down < 65536
