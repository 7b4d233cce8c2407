-- `replay::judging::in_range` meets its contract: an accepted plan has few links and propositions, so neither shift overflows.
use mathlib.Core.Path.{◌≡◌, sym, ◌∙◌}
use mathlib.Core.Bool.{Bool, false, and-false}
use Prim.Native.Nat.{ℕ, ◌*◌, ◌%◌, ◌^◌, ◌≤◌}
use native.Mathlib.Omega.{arith}
use lib.Dec.{ltb}
use Rattle.plan.specs.Plan.{Plan}
use Rattle.plan.proofs.Widths.{shift}
use Rattle.rules.specs.declared.Line.{Line}
use Rattle.replay.specs.Replaying.{in_range}
use Rattle.replay.proofs.JudgeLaws.{links_few, propositions_few}
use Rattle.replay.proofs.judging.in_range.Goals as goal
use Rattle.replay.proofs.judging.in_range.Goals.{then-l-points, else-l-points}

pub overflow_shl-links : goal.overflow_shl-links
overflow_shl-links c = omega (arith, c.links.ensures.0, links_few c.args.plan.now c.requires)

pub labels-requires : goal.labels-requires
labels-requires c = propositions_few c.args.plan.now c.requires

far_point : (P : Plan) (l : Line) (v : Bool) (n : ℕ) → n ≡ P.points → v ≡ ltb l.point n → v ≡ false → v ≡ in_range P l
unfolding in_range
far_point P l v n e h f = rw (f, ← e, sym h ∙ f)

far_set : (P : Plan) (l : Line) (v : Bool) (k : ℕ) → P.links ≤ 4 → k ≡ P.links → v ≡ ltb l.set (1 * 2 ^ k % 18446744073709551616) → v ≡ false → v ≡ in_range P l
unfolding in_range
far_set P l v k few e h f =
    let far : ltb l.set (2 ^ P.links) ≡ false = sym (rw (shift k P.links (omega arith) e) at h) ∙ f in
    rw (f, far, and-false)

pub returns-else-l-links : goal.returns-else-l-links
returns-else-l-links c =
    elim c.if-l-points.branch [
      | then-l-points w ↦ far_set _ _ _ _ (links_few c.args.plan.now c.requires) w.links.ensures.0 w.value-is c.if-l-links.false
      | else-l-points w ↦ far_point _ _ _ _ c.points.ensures.0 w.value-is c.if-l-links.false
    ]
