-- What is lent stays lent, and has what the loops over cells ask for.
use mathlib.Core.Path.{◌≡◌, refl}
use mathlib.Core.List.{List}
use Prim.Native.Nat.{ℕ, ◌+◌, ◌*◌, ◌≤◌, ◌<◌}
use native.Mathlib.Omega.{arith}
use lib.ListN.{length}
use Rattle.plan.specs.Plan.{width}
use Rattle.plan.specs.Layout.{plan_of}
use Rattle.plan.proofs.LabelLaws.{four_pos}
use Rattle.plan.proofs.Widths.{labels_small}
use Rattle.plan.proofs.Ranges.{accepted_bounded}
use Rattle.rules_fill.specs.Shapes.{label_mask}
use Rattle.rules_fill.proofs.ShapeLaws.{row_in, or_in_by, all_in_by}
use Rattle.rules_fill.specs.declared.shapes.Propagator.{Propagator}
use Rattle.rules_fill.specs.declared.shapes.Remover.{Remover}
use Rattle.rules_fill.specs.Cells.{AllJoin, Run, PropagatorLent, RemoverLent}
use Rattle.rules_fill.specs.Lent.{Lent}
use Rattle.rules_fill.specs.Filling.{RowsLent, RemovalLent}

pub lent_on : (bs F B D : List ℕ) → Lent bs F B → length D ≡ length B → Lent bs F D
lent_on bs F B D l e = record { accepted = l.accepted; bound = l.bound; long_first = l.long_first; long_part = rw e l.long_part }

pub rows_on : (bs M F B D : List ℕ) (w mask : ℕ) → RowsLent bs M F B w mask → length D ≡ length B → RowsLent bs M F D w mask
rows_on bs M F B D w mask s e = record { lent = lent_on bs F B D s.lent e; numbers = s.numbers; marked = s.marked }

pub removal_on : (bs F B D : List ℕ) (w x : ℕ) → RemovalLent bs F B w x → length D ≡ length B → RemovalLent bs F D w x
removal_on bs F B D w x s e = record { lent = lent_on bs F B D s.lent e; width_is = s.width_is; point_in = s.point_in }

mask_small : (p : ℕ) → p ≤ 4 → label_mask p < 256
unfolding label_mask
mask_small p h = omega (arith, four_pos p, labels_small p h)

pub remover_on : (F B D : List ℕ) (w : ℕ) (by : Remover) → RemoverLent F B w by → length D ≡ length B → RemoverLent F D w by
remover_on F B D w by s e = record { other_in = s.other_in; long_part = rw e s.long_part; run = s.run; add_small = s.add_small }

-- the row's point is y, and it adds the bits b
pub propagate_lent : (bs M F B : List ℕ) (w mask y b : ℕ) (by : Propagator) → RowsLent bs M F B w mask → by.down < 65536 → by.from ≡ y → y < (plan_of bs).points → by.add ≡ b → b < width (plan_of bs) → PropagatorLent M F B w mask by
propagate_lent bs M F B w mask y b by s d e in' g k =
    let l = s.lent in
    let h = s.numbers in
    record {
      marked = s.marked;
      mask_small = rw h.mask_is (mask_small (plan_of bs).propositions (accepted_bounded bs l.accepted).propositions_in);
      bound = l.bound;
      down_small = d;
      from_in = row_in (plan_of bs) y (length F) w by.from in' l.long_first h.width_is e;
      long_part = rw h.width_is l.long_part;
      joins = or_in_by (plan_of bs) w by.add b h.width_is g k;
    }

-- the row's other point is y, and it removes the run of bits mask from low on
pub remove_lent : (bs F B : List ℕ) (w y x low mask : ℕ) (by : Remover) → RemovalLent bs F B w x → by.other ≡ y → y < (plan_of bs).points → by.mask ≡ mask → by.low ≡ low → Run low mask (width (plan_of bs)) → by.add < 65536
    → RemoverLent F B w by × AllJoin w × (x * w + w ≤ length F)
remove_lent bs F B w y x low mask by s g in' a b r d =
    let l = s.lent in
    let e = s.width_is in
    (record { other_in = row_in (plan_of bs) y (length F) w by.other in' l.long_first e g; long_part = rw e l.long_part; run = rw (e, a, b) r; add_small = d }, all_in_by (plan_of bs) w e, row_in (plan_of bs) x (length F) w x s.point_in l.long_first e refl)
