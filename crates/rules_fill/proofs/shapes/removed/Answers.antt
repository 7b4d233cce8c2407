-- Each way out is one branch of the definition.
use mathlib.Core.Path.{sym, ◌∙◌}
use Rattle.rules_fill.proofs.ShapeLaws.{removed_none, removed_goes}
use Rattle.rules_fill.proofs.shapes.removed.Goals as goal

pub returns-then-not-is_line : goal.returns-then-not-is_line
returns-then-not-is_line c = removed_none _ _ _ _ _ (sym c.is_line.ensures ∙ c.if-not-is_line.true)

pub returns : goal.returns
returns c = c.min.ensures
    ∙ removed_goes _ _ _ _ _
    (sym c.is_line.ensures ∙ c.if-not-is_line.false)
    c.requires.2
