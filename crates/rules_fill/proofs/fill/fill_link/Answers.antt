-- The rules and the edges one after the other.
use mathlib.Core.Path.{◌∙◌}
use Rattle.rules_fill.specs.Shapes.{letter_in}
use Rattle.rules_fill.proofs.ShapeLaws.{link_by}
use Rattle.rules_fill.proofs.Lending.{lent_on, rows_on}
use Rattle.rules_fill.proofs.fill.fill_link.Goals as goal

pub activation_in-requires : goal.activation_in-requires
activation_in-requires c = record { rows_lent = c.requires.rows_lent; i_bound = c.requires.i_bound.0 }

pub finish_in-requires : goal.finish_in-requires
finish_in-requires c = record { rows_lent = rows_on _ _ _ _ _ _ _ c.requires.rows_lent c.activation_in.ensures.same_length; i_bound = c.requires.i_bound.0 }

pub letter_in-requires : goal.letter_in-requires
letter_in-requires c = (record { lent = lent_on _ _ _ _ c.requires.rows_lent.lent (c.finish_in.ensures.same_length ∙ c.activation_in.ensures.same_length); width_is = c.requires.rows_lent.numbers.width_is; point_in = c.requires.i_bound.1 }, c.requires.i_bound.0)

pub returns : goal.returns
unfolding letter_in
returns c = record { part_value = link_by _ _ _ _ _ _ _ _ c.activation_in.ensures.part_value c.finish_in.ensures.part_value c.letter_in.ensures.part_value; same_length = c.letter_in.ensures.same_length ∙ c.finish_in.ensures.same_length ∙ c.activation_in.ensures.same_length }
