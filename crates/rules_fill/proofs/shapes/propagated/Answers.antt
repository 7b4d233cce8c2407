-- Each way out is one branch of the definition.
use mathlib.Core.Path.{sym, ap, ◌∙◌}
use Rattle.rules_fill.specs.Shapes.{is_plain}
use Rattle.rules_fill.proofs.ShapeLaws.{propagated_none, propagated_avoids, propagated_unknown, propagated_clash, propagated_goes}
use Rattle.rules_fill.proofs.shapes.propagated.Goals as goal

pub returns-then-not-is_line : goal.returns-then-not-is_line
returns-then-not-is_line c = propagated_none _ _ _ _ _ _ _ (sym c.is_line.ensures ∙ c.if-not-is_line.true)

pub returns-then-touches : goal.returns-then-touches
returns-then-touches c = propagated_avoids _ _ _ _ _ _ _ (sym c.touches.ensures ∙ c.if-touches.true)

pub returns-then-not-has_plain_label : goal.returns-then-not-has_plain_label
returns-then-not-has_plain_label c = propagated_unknown _ _ _ _ _ _ _ (sym c.has_plain_label.ensures ∙ c.if-not-has_plain_label.true)

pub returns-then-not-has_plain_label-2 : goal.returns-then-not-has_plain_label-2
returns-then-not-has_plain_label-2 c = propagated_clash _ _ _ _ _ _ _ (ap (is_plain _) (sym c.joined.ensures) ∙ sym c.has_plain_label-2.ensures ∙ c.if-not-has_plain_label-2.true)

pub returns : goal.returns
returns c = c.weighed.ensures
    ∙ propagated_goes _ _ _ _ _ _ _
    (sym c.is_line.ensures ∙ c.if-not-is_line.false)
    (sym c.touches.ensures ∙ c.if-touches.false)
    (sym c.has_plain_label.ensures ∙ c.if-not-has_plain_label.false)
    (ap (is_plain _) (sym c.joined.ensures) ∙ sym c.has_plain_label-2.ensures ∙ c.if-not-has_plain_label-2.false)
