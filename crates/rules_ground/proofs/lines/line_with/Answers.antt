-- `rules_ground::lines::line_with` meets its contract: shifts and masks are quotients and remainders.
use Rattle.rules_ground.proofs.LineLaws.{line_made}
use Rattle.rules_ground.proofs.lines.line_with.Goals as goal

pub returns : goal.returns
returns c = let a = c.args in
    line_made a.frame a.c a.wait
