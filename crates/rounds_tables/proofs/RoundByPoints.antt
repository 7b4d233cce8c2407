-- A round from raised cells, as its code makes it: what a pass of the loop over a set's points is lent, and what its start and end show.
use mathlib.Core.Path.{◌≡◌, refl, sym, ap, subst, ◌∙◌}
use mathlib.Core.Bool.{Bool}
use mathlib.Core.List.{List}
use Prim.Native.Nat.{ℕ, ◌+◌, ◌-◌, ◌*◌, ◌≤◌, ◌<◌}
use native.Mathlib.Nat.{one-le-mul}
use native.Mathlib.Omega.{arith}
use lib.ListN.{length, set, take, drop, length-set, length-drop}
use lib.Pow.{pow_pos}
use lib.Seq.{length-take-le}
use borrow.Rule.Slice.PartMut.{put_mid, same_len_mid}
use Rattle.rules_rows.specs.declared.rows.Rows.{Rows}
use Rattle.plan.specs.LinkSet.{remove}
use Rattle.plan.specs.Plan.{width, cells}
use Rattle.plan.specs.Layout.{plan_of}
use Rattle.plan.specs.Horizons.{plan_with}
use Rattle.plan.proofs.LabelLaws.{four_pos}
use Rattle.plan.proofs.Ranges.{accepted_bounded}
use Rattle.plan.proofs.Horizons.{with_well_formed}
use Rattle.rules_fill.specs.Parts.{point_cells, next_cells, next_part, laid_over}
use Rattle.rules_fill.proofs.Laying.{lent_part}
use Rattle.rules_listed.specs.Notes.{Noted}
use Rattle.rules_refill.specs.Lent.{RefillLent, NoneOver}
use Rattle.rounds_points.specs.PointSets.{In}
use Rattle.rounds_points.proofs.PointSets.{none_in, point_below, in_whole, in_rest, not_in_rest}
use Rattle.rounds_tables.specs.Ready.{RoundLent}
use Rattle.rounds_tables.specs.Known.{RoundNoted}
use Rattle.rounds_tables.proofs.RoundLaws.{next_length, row_within}
use Rattle.rounds_tables.proofs.Refilled.{Refilled, refilled_none, part_cells, refilled_more, refilled_all, refilled_noted}

module _ (bs M : List ℕ) (h : ℕ) (F G L K : List ℕ) (R : Rows) (N₀ D₀ : List ℕ) (w mask set₀ : ℕ) (over : Bool) where
  -- the loop's invariant, with the lengths of the notes and of their numbers
  abbrev pub SoFar : ℕ → List ℕ → List ℕ → List ℕ → Type 0
  SoFar left S N D = Refilled (plan_with bs h) F G w set₀ left S N D × (length N ≡ length N₀) × (length D ≡ length D₀)

  -- at point x: the first e cells of the first table are lent, the part of the second that starts at the point's first cell, and k notes
  pub record AtNext (e k left x : ℕ) (S N D : List ℕ) : Type 0 where
    pub cut : e ≡ length (take e F)
    pub small : x * w + w ≤ 65536
    pub row : x * w + w ≤ length S
    pub row_notes : x * w + w ≤ length N
    pub x_noted : x < length D
    pub point_in : x < (plan_of bs).points
    pub part_long : w ≤ length (take (length S - x * w) (drop (x * w) S))
    pub notes_room : w ≤ length (take k (drop (x * w) N))
    pub cells_are : take w (take (length S - x * w) (drop (x * w) S)) ≡ point_cells w x (take e F)
    -- the parts come back with the point's next cells, and with the notes of those that are raised
    pub more : (Y Z : List ℕ) (count rest : ℕ) → length Y ≡ length (take (length S - x * w) (drop (x * w) S)) → length Z ≡ length (take k (drop (x * w) N))
        → Y ≡ next_part (plan_with bs h) x (take e F) (take (length S - x * w) (drop (x * w) S)) → Noted w (take e F) (x * w) Y Z count → rest ≡ remove left x → rest < left
        → SoFar rest (put_mid (x * w) (length S - x * w) S Y) (put_mid (x * w) k N Z) (set D x count)

  module _ (lent : RoundLent bs M h F G L K R N₀ D₀ w mask set₀ over) where
    ew : w ≡ width (plan_with bs h)
    ew = lent.numbers.width_is

    all : (plan_of bs).points * w ≡ cells (plan_of bs)
    all = ap (λ (v : ℕ). (plan_of bs).points * v) lent.numbers.width_is

    long : (plan_of bs).points * w ≤ length F
    long = omega (arith, all, lent.ready.long_first)

    long_second : (plan_of bs).points * w ≤ length G
    long_second = omega (arith, all, lent.ready.long_second)

    sized : length (next_cells (plan_with bs h) F) ≡ cells (plan_with bs h)
    sized = next_length (plan_with bs h) (with_well_formed bs lent.ready.accepted h lent.ready.horizon_far) F lent.ready.long_first

    some_cells : 0 < w
    some_cells = rw lent.numbers.width_is (one-le-mul (pow_pos _) (four_pos _))

    -- what the points' parts are made from
    pub refill_lent : (e : ℕ) → e ≡ cells (plan_of bs) → RefillLent bs M h (take e F) L K R w mask 0
    refill_lent e q =
        rw q (record {
          accepted = lent.ready.accepted;
          marked = lent.ready.marked;
          horizon_far = lent.ready.horizon_far;
          bound = lent.bound;
          long_first = omega (arith, length-take-le (cells (plan_of bs)) F lent.ready.long_first);
          lists_are = lent.lists_are;
          rows_are = lent.rows_are;
          numbers = lent.numbers;
          point_in = omega (arith, (with_well_formed bs lent.ready.accepted h lent.ready.horizon_far).two);
        })

    pub none_lent : (e : ℕ) → e ≡ cells (plan_of bs) → NoneOver (plan_with bs h) (take e F) L K over
    none_lent e q = rw q lent.none_over

    -- before the first point
    pub round_begins : SoFar set₀ G N₀ D₀
    round_begins = (refilled_none (plan_with bs h) F G w set₀ ew long long_second lent.same_cells N₀ D₀ lent.set_below lent.unaffected (omega (arith, all, lent.notes_long)) lent.no_notes, refl, refl)

    -- after the last
    pub round_ends : (left : ℕ) (S N D : List ℕ) → left ≡ 0 → SoFar left S N D → (S ≡ laid_over (cells (plan_of bs)) (next_cells (plan_with bs h) F) G) × RoundNoted (plan_of bs).points w F S N D set₀
    round_ends left S N D e so =
        let z : Refilled (plan_with bs h) F G w set₀ 0 S N D = rw e at so.0 in
        (refilled_all (plan_with bs h) F G w set₀ ew long long_second lent.same_cells S N D z none_in sized some_cells, refilled_noted (plan_with bs h) F G w set₀ ew long long_second lent.same_cells S N D z none_in sized)

    -- at a point of what is left
    module _ (left : ℕ) (S N D : List ℕ) (so : SoFar left S N D) (x : ℕ) (x_in : In left x) where
      r : Refilled (plan_with bs h) F G w set₀ left S N D
      r = so.0

      inside : x < (plan_of bs).points
      inside = point_below left (plan_of bs).points x x_in r.left_below

      in_cells : x * w + w ≤ (plan_of bs).points * w
      in_cells = row_within x (plan_of bs).points w inside

      second_long : x * w + w ≤ length S
      second_long = omega (arith, in_cells, r.as_long, long_second)

      notes_long : x * w + w ≤ length N
      notes_long = omega (arith, in_cells, r.notes_long)

      cells_cut : cells (plan_of bs) ≡ length (take (cells (plan_of bs)) F)
      cells_cut = sym (length-take-le (cells (plan_of bs)) F lent.ready.long_first)

      part_is : take (length S - x * w) (drop (x * w) S) ≡ drop (x * w) S
      part_is = lent_part (x * w) S

      notes_are : length (take w (drop (x * w) N)) ≡ w
      notes_are = length-take-le w (drop (x * w) N) (simp length-drop (omega (arith, notes_long)))

      at_cells : AtNext (cells (plan_of bs)) w left x S N D
      at_cells = record {
        cut = cells_cut;
        small = omega (arith, in_cells, all, (accepted_bounded bs lent.ready.accepted).cells_in);
        row = second_long;
        row_notes = notes_long;
        x_noted = omega (arith, inside, r.noted_long);
        point_in = inside;
        part_long = rw part_is (simp length-drop (omega (arith, second_long)));
        notes_room = omega (arith, notes_are);
        cells_are = ap (take w) part_is ∙ part_cells (plan_with bs h) F G w set₀ ew long long_second lent.same_cells left S N D r x x_in inside;
        more = λ Y Z count rest ly lz filled noted e less. (
          refilled_more (plan_with bs h) F G w set₀ ew long long_second lent.same_cells left S N D r x x_in inside Y Z count (ly ∙ ap length part_is ∙ length-drop (x * w) S) (lz ∙ notes_are)
              (filled ∙ ap (next_part (plan_with bs h) x (take (cells (plan_of bs)) F)) part_is) noted sized rest e (in_whole left x) (in_rest left x) (not_in_rest left x) less,
          same_len_mid (x * w) w N Z lz ∙ so.1,
          length-set D x count ∙ so.2,
        );
      }

      pub at_next : (e : ℕ) → e ≡ cells (plan_of bs) → AtNext e (x * w + w - x * w) left x S N D
      at_next e ee =
          let ek : w ≡ x * w + w - x * w = omega arith in
          subst (λ (n : ℕ). AtNext n (x * w + w - x * w) left x S N D) (sym ee) (subst (λ (k : ℕ). AtNext (cells (plan_of bs)) k left x S N D) ek at_cells)
