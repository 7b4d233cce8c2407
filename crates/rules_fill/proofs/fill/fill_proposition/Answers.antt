-- The two rules one after the other.
use mathlib.Core.Path.{◌∙◌}
use Rattle.rules_fill.proofs.ShapeLaws.{proposition_by}
use Rattle.rules_fill.proofs.Lending.{removal_on}
use Rattle.rules_fill.proofs.fill.fill_proposition.Goals as goal

pub literal_in-requires : goal.literal_in-requires
literal_in-requires c = (removal_on _ _ _ _ _ _ c.requires.0 c.own_literal_in.ensures.same_length, c.requires.1)

pub returns : goal.returns
returns c = record { part_value = proposition_by _ _ _ _ _ _ _ c.own_literal_in.ensures.part_value c.literal_in.ensures.part_value; same_length = c.literal_in.ensures.same_length ∙ c.own_literal_in.ensures.same_length }
