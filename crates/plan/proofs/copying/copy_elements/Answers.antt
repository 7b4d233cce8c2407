-- One more element is copied at a time; at the end all are.
use Rattle.std.proofs.Common.{◌≡◌, refl, sym, ap, ◌∙◌, take, length, length-set, arith}
use Rattle.std.proofs.lemmas.List.{take_all, take_more, take_more_set}
use Rattle.plan.proofs.copying.copy_elements.Goals as goal

pub loop-i-init : goal.loop-i-init
loop-i-init g c = refl

pub loop-i-preserved : goal.loop-i-preserved
loop-i-preserved g c =
    let v = c.index-source-i.result in
    take_more_set c.loop-i.target c.loop-i.i v (omega (arith, c.requires)) ∙ rw (c.loop-i.invariant, take_more c.args.source.now c.loop-i.i v (omega arith), sym c.index-source-i.is) refl

pub returns : goal.returns
returns g c = sym (take_all c.loop-i.i c.loop-i.target (omega (arith, c.requires))) ∙ c.loop-i.invariant ∙ take_all c.loop-i.i c.args.source.now (omega arith)
