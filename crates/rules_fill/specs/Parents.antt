-- For inner contracts only: the points of a rule's parents and of the line that it gives. Nothing here is to be believed.
use Rattle.std.specs.Prelude.{ℕ}
use Rattle.plan.specs.Plan.{Plan}
use Rattle.rules.specs.declared.Rule.{Rule}
use Rattle.rules.specs.declared.Rule.TheVariants.{Propagation, LowerCase, UpperCase, LetterRemoval, OwnLiteral, LiteralRemoval}
use Rattle.rules.specs.Rules.{constraint_of}

-- the point of the line that a rule gives, where its first parent is a line of point x
abbrev pub given_point : Plan → Rule → ℕ → ℕ
given_point P (Propagation e) x = (constraint_of P e).from
given_point P (LowerCase i) x = P.activation i
given_point P (UpperCase i) x = P.finish i
given_point P (LetterRemoval i) x = x
given_point P (OwnLiteral j) x = x
given_point P (LiteralRemoval j) x = x

-- the point of its first parent, where it gives a line of point x
abbrev pub first_point : Plan → Rule → ℕ → ℕ
first_point P (Propagation e) x = (constraint_of P e).to
first_point P (LowerCase i) x = P.finish i
first_point P (UpperCase i) x = P.activation i
first_point P (LetterRemoval i) x = x
first_point P (OwnLiteral j) x = x
first_point P (LiteralRemoval j) x = x

-- the point of its second parent; 0 for a rule of one parent
abbrev pub second_point : Plan → Rule → ℕ
second_point P (Propagation e) = 0
second_point P (LowerCase i) = 0
second_point P (UpperCase i) = 0
second_point P (LetterRemoval i) = P.activation i
second_point P (OwnLiteral j) = 0
second_point P (LiteralRemoval j) = P.observer j
