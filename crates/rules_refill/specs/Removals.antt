-- For inner contracts only: a plan's links and then its propositions, numbered in one sequence, as each has one removal. Nothing here is to be believed:
-- the whole makes `next_part`.
use Rattle.std.specs.Prelude.{cond, List, ℕ, ◌-◌, ◌≤◌, ◌<◌, ltb}
use Rattle.plan.specs.Plan.{Plan}
use Rattle.rules_fill.specs.declared.shapes.Remover.{Remover}
use Rattle.rules_fill.specs.Shapes.{fill_activation, fill_finish, fill_links, fill_own_literal, letter_in, literal_in, fill_propositions}
use Rattle.rules_fill.specs.Rows.{LetterRow, LiteralRow}

-- rule 4 of link r, or rule 6 of proposition r less the links
pub record RemovalRow (P : Plan) (r : ℕ) (by : Remover) : Type 0 where
  pub letter : r < P.links → LetterRow P r by
  pub literal : P.links ≤ r → LiteralRow P (r - P.links) by

module _ (P : Plan) (A : List ℕ) (x : ℕ) where
  -- the rules of link i that come before its removal
  unfoldable pub link_in : ℕ → List ℕ → List ℕ
  link_in i B = fill_finish P A x i (fill_activation P A x i B)

  -- the rules that come before removal r
  unfoldable pub single_in : ℕ → List ℕ → List ℕ
  single_in r B = cond (ltb r P.links) (link_in r B) (fill_own_literal P A x (r - P.links) B)

  -- removal r
  unfoldable pub removal_in : ℕ → List ℕ → List ℕ
  removal_in r B = cond (ltb r P.links) (letter_in P A x r B) (literal_in P A x (r - P.links) B)

  unfoldable pub fill_removals : List ℕ → List ℕ
  fill_removals B = fill_propositions P A x (fill_links P A x B)
