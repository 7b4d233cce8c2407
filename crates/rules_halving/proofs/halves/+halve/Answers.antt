-- Four waits or fewer are done pair by pair, and a run that can raise nothing is as it should be; else three halves cover four.
use Rattle.std.proofs.Common.{◌∙◌, sym, arith}
use Rattle.rules_halving.proofs.Loops.{run_lent, run_long, run_product, run_no_more}
use Rattle.rules_halving.proofs.Pairs.{or_in}
use Rattle.rules_halving.proofs.ThreeHalves.{all_covered}
use Rattle.rules_halving.proofs.Lending.{half, first_lent, second_lent, third_lent, same_below, made}
use Rattle.rules_halving.proofs.halves.+halve.Goals as goal

pub returns-then-nothing_new-clause-product : goal.returns-then-nothing_new-clause-product
returns-then-nothing_new-clause-product t c = all_covered _ _ _ _ _ (or_in c.requires.pairs) (run_no_more _ _ _ c.if-nothing_new.true (rw c.requires.pairs.long_first at c.nothing_new.ensures))

pub pairs-requires : goal.pairs-requires
pairs-requires t c = (rw c.requires.pairs.long_first (run_lent c.requires.pairs), run_long c.requires.pairs ∙ sym c.requires.pairs.long_first)

pub nothing_new-requires : goal.nothing_new-requires
nothing_new-requires t c = rw c.requires.pairs.long_first (run_lent c.requires.pairs)

pub returns-then-n-le4-clause-product : goal.returns-then-n-le4-clause-product
returns-then-n-le4-clause-product t c = run_product (rw c.requires.pairs.long_first at c.pairs.ensures.product)

pub halve-requires : goal.halve-requires
halve-requires t c =
    let h = half c.requires.pairs c.if-n-le4.false in
    (omega (arith, h.less, c.decreases), first_lent c.requires h (omega (arith, h.twice)))

pub halve-requires-2 : goal.halve-requires-2
halve-requires-2 t c =
    let h = half c.requires.pairs c.if-n-le4.false in
    (omega (arith, h.less, c.decreases), second_lent c.requires h c.halve.new.h c.halve.ensures.same_length.1 c.halve.ensures.same_length.0 (omega (arith, h.twice)))

pub halve-requires-3 : goal.halve-requires-3
halve-requires-3 t c =
    let h = half c.requires.pairs c.if-n-le4.false in
    let a = c.halve.ensures.same_length in
    let u = c.halve-2.ensures.same_length in
    (omega (arith, h.less, c.decreases), third_lent c.requires h c.halve.new.h a.1 c.halve-2.new.h u.1 (c.join_runs.ensures.same_length ∙ u.0 ∙ a.0) (omega arith))

pub returns-clause-product : goal.returns-clause-product
returns-clause-product t c =
    let h = half c.requires.pairs c.if-n-le4.false in
    let a = c.halve.ensures in
    let u = c.halve-2.ensures in
    let v = c.halve-3.ensures in
    made c.requires h _ _ (a.product, (a.g_value, a.same_length)) _ _ (u.product, (u.g_value, u.same_length)) _ c.join_runs.ensures.joined _ _ (v.product, (v.g_value, v.same_length))

pub returns-clause-g_value : goal.returns-clause-g_value
returns-clause-g_value t c =
    let h = half c.requires.pairs c.if-n-le4.false in
    let a = c.halve.ensures in
    let u = c.halve-2.ensures in
    let v = c.halve-3.ensures in
    same_below c.requires h _ _ (a.product, (a.g_value, a.same_length)) _ _ (u.product, (u.g_value, u.same_length)) _ c.join_runs.ensures.joined _ _ (v.product, (v.g_value, v.same_length))
