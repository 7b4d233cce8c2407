-- One round made: from what it noted, and what the copy of noted cells leaves, to whether it stops and what is known of its table.
use mathlib.Core.Path.{◌≡◌, refl, sym, ap, subst, ◌∙◌}
use mathlib.Core.Bool.{Bool, true, false, ◌&&◌, ◌||◌}
use mathlib.Core.List.{List}
use Prim.Native.Nat.{ℕ, ◌+◌, ◌*◌, ◌/◌, ◌%◌, ◌^◌, ◌≤◌, ◌<◌}
use native.Mathlib.Nat.{le_trans, mul-le-mul_right, suc-mul, mod-lt, div-add-mod', div-lt_iff_lt-mul, one-le-mul}
use native.Mathlib.Decide.{ℕ_discrete, dec_le}
use native.Mathlib.Omega.{arith}
use lib.Bits.{bit_or}
use lib.Pow.{pow_pos, pow-lt}
use lib.Dec.{T as Is, eqb}
use lib.ListN.{length, get_or, take}
use lib.Seq.{get_or-take, ext_get_or, length-take-le}
use borrow.Author.Tests.{eq-eqb, ne_eqb}
use Rattle.plan.specs.LinkSet.{contains}
use Rattle.plan.specs.Plan.{Plan, width, cells}
use Rattle.plan.proofs.Ranges.{WellFormed}
use Rattle.plan.proofs.LabelLaws.{four_pos}
use Rattle.rules.proofs.FirstAlarm.{width_le}
use Rattle.rules.proofs.Next.{IsNext, next_is}
use Rattle.rules_fill.specs.Shapes.{is_line}
use Rattle.rules_fill.specs.Parts.{next_cells, laid_over}
use Rattle.rules_refill.specs.Lists.{Raised, PointLists}
use Rattle.rules_listed.proofs.Counting.{count_alike}
use Rattle.rounds_points.specs.PointSets.{In, Concerned}
use Rattle.rounds_points.proofs.PointSets.{in_left, in_right, union_below, is_empty, none_in, own_bit}
use Rattle.rounds_tables.specs.Cells.{same}
use Rattle.rounds_tables.specs.Ready.{SameOutside}
use Rattle.rounds_tables.specs.Known.{RoundNoted, RaisedFrom, SettleLent, AfterSettle, LinedBut, LinedIn, OverLent, NoneRaisedAbove, Known}
use Rattle.rounds_tables.proofs.Comparing.{same_eq, eq_same, none_above}
use Rattle.rounds_tables.proofs.RoundLaws.{next_length, above_at, above_nowhere}
use Rattle.rounds_tables.proofs.Covering.{covered_next}
use Rattle.rounds_making.specs.Rounds.{first_alarm_waits}
use Rattle.rounds_making.specs.Making.{stops_by}
use Rattle.rounds_making.proofs.RoundsMade.{front_is, laid_cut}

true_not_false : ◌≡◌ {A = Bool} true false → ⊥
true_not_false z = subst Is z tt

row : (y n w : ℕ) → y < n → y * w + w ≤ n * w
row y n w h = rw suc-mul at (mul-le-mul_right w h)

-- the lists of a point rest on its cells alone
pub lists_same : (n w : ℕ) (A B L C : List ℕ) → ((c : ℕ) → c < n * w → get_or A c 0 ≡ get_or B c 0) → (y : ℕ) → y < n → PointLists w A L C y → PointLists w B L C y
lists_same n w A B L C e y h l =
    let at : (t : ℕ) → t < w → get_or A (y * w + t) 0 ≡ get_or B (y * w + t) 0 = λ t k. e (y * w + t) (omega (arith, row y n w h)) in record {
      raised_places = l.raised_places;
      line_places = l.line_places;
      line_count = l.line_count ∙ count_alike (λ t. is_line t (get_or A (y * w + t) 0)) (λ t. is_line t (get_or B (y * w + t) 0)) w (λ t k. ap (is_line t) (at t k));
      all_lines = λ t k i. l.all_lines t k (subst (λ (v : ℕ). Is (is_line t v)) (sym (at t k)) i);
    }

module _ (P : Plan) (wf : WellFormed P) (F G G' : List ℕ) (long : cells P ≤ length F) (made : G' ≡ laid_over (cells P) (next_cells P F) G) (long' : cells P ≤ length G') where
  sized : length (next_cells P F) ≡ cells P
  sized = next_length P wf F long

  n : IsNext P (take (cells P) F) (next_cells P F)
  n = next_is P wf (take (cells P) F) (length-take-le (cells P) F long)

  pub second_at : (c : ℕ) → c < cells P → get_or G' c 0 ≡ get_or (next_cells P F) c 0
  second_at c h = sym (get_or-take (cells P) G' c 0 h) ∙ ap (λ (l : List ℕ). get_or l c 0) (ap (take (cells P)) made ∙ front_is (cells P) (next_cells P F) G sized)

  pub first_at : (c : ℕ) → c < cells P → get_or (take (cells P) F) c 0 ≡ get_or F c 0
  first_at c h = get_or-take (cells P) F c 0 h

  cell_in : (y t : ℕ) → y < P.points → t < width P → y * width P + t < cells P
  cell_in y t h k = omega (arith, row y P.points (width P) h)

  module _ (L C : List ℕ) (changed lined : ℕ) (over : Bool) (known : Known P (take (cells P) F) L C changed lined over) where
    -- what the copy of the noted cells is lent
    pub settle_lent : (N D : List ℕ) (set : ℕ) → P.points ≤ 32 → width P ≤ 65536 → (2 * P.points) * width P ≤ length L → cells P ≤ length N → set < 2 ^ P.points → RoundNoted P.points (width P) F G' N D set
        → SettleLent P.points (width P) G' F N D L C (bit_or set changed)
    settle_lent N D set few narrow ll ln below noted = record {
      few = few;
      narrow = narrow;
      long_source = long';
      long_target = long;
      lists_long = ll;
      counts_long = known.lists_are.counts_long;
      notes_long = ln;
      set_below = union_below P.points set changed below known.changed_in.below;
      notes_are = record { long = noted.long; at = noted.at; outside = λ y h out. noted.outside y h (λ i. out (in_left set changed y i)) };
      lists_are = λ y h. lists_same P.points (width P) (take (cells P) F) F L C first_at y h (known.lists_are.of_point y h);
      none_raised = λ y h out. go y h out (dec_le 1 (get_or C (2 * y) 0));
    }
      where
        go : (y : ℕ) → y < P.points → (In (bit_or set changed) y → ⊥) → Dec (1 ≤ get_or C (2 * y) 0) → get_or C (2 * y) 0 ≡ 0
        go y h out (yes k) = absurd (out (in_right set changed y (known.changed_in.has y h k)))
        go y h out (no k) = omega arith

    module _ (F' D' L' C' : List ℕ) (changed' : ℕ) (settled : AfterSettle P.points (width P) G' F F' D' L' C' changed') where
      f : RaisedFrom P.points (width P) F G' L' C' changed'
      f = settled.raised_from

      -- a point that is not in the set kept its cells
      kept : (y t : ℕ) → y < P.points → t < width P → (In changed' y → ⊥) → get_or G' (y * width P + t) 0 ≡ get_or F (y * width P + t) 0
      kept y t h k out = go (ℕ_discrete _ _)
        where
          go : Dec (get_or G' (y * width P + t) 0 ≡ get_or F (y * width P + t) 0) → get_or G' (y * width P + t) 0 ≡ get_or F (y * width P + t) 0
          go (yes e) = e
          go (no e) = absurd (out (f.raised_in y h (omega (arith, (f.all_raised y t h k e).below))))

      pub lined_but : P.points ≤ 32 → 2 * P.points ≤ length C' → LinedBut P.points C' changed' lined
      lined_but few lc = record {
        few = few;
        counts_long = lc;
        changed_below = f.below;
        lined_below = known.lined_in.below;
        has = λ y h out k. known.lined_in.has y h (omega (arith, same_count y h out));
      }
        where
          same_count : (y : ℕ) → y < P.points → (In changed' y → ⊥) → get_or C (2 * y + 1) 0 ≡ get_or C' (2 * y + 1) 0
          same_count y h out = (known.lists_are.of_point y h).line_count ∙ count_alike (λ t. is_line t (get_or (take (cells P) F) (y * width P + t) 0)) (λ t. is_line t (get_or G' (y * width P + t) 0)) (width P) (λ t k. ap (is_line t) (first_at (y * width P + t) (cell_in y t h k) ∙ sym (kept y t h k out))) ∙ sym (settled.lists_are y h).line_count

      pub over_lent : P.points ≤ 32 → 2 * P.points ≤ length C' → OverLent P.points (width P) G' L' C' changed'
      over_lent few lc = record { few = few; below = f.below; long = long'; counts_long = lc; places = λ y h. (settled.lists_are y h).raised_places }

      pub round_known : (lined' : ℕ) (over' : Bool) → 2 * P.points ≤ length C' → LinedIn P.points C' lined' → NoneRaisedAbove P.points (width P) P.horizon G' L' C' changed' over' → Known P (next_cells P F) L' C' changed' lined' over'
      round_known lined' over' lc with_lines none = record {
        lists_are = record {
          counts_long = lc;
          of_point = λ y h. lists_same P.points (width P) G' (next_cells P F) L' C' second_at y h (settled.lists_are y h);
          covered = covered_next P wf (take (cells P) F) (length-take-le (cells P) F long) L' C' raised;
        };
        changed_in = record { below = f.below; has = f.raised_in };
        lined_in = with_lines;
        none_over = record { none = λ e y t h k r. rw (← (second_at (y * width P + t) (cell_in y t h k))) (none.none e y t h (f.raised_in y h (omega (arith, r.below))) r) };
      }
        where
          raised : (y t : ℕ) → y < P.points → t < width P → (get_or (next_cells P F) (y * width P + t) 0 ≡ get_or (take (cells P) F) (y * width P + t) 0 → ⊥) → Raised (width P) L' C' y t
          raised y t h k ne = f.all_raised y t h k (λ e. ne (sym (second_at (y * width P + t) (cell_in y t h k)) ∙ e ∙ sym (first_at (y * width P + t) (cell_in y t h k))))

      -- ---- whether the rounds stop
      some_point : 0 < P.points
      some_point = omega (arith, wf.two)

      alarm_cell : (t : ℕ) → t < width P → t < cells P
      alarm_cell t h = le_trans h (width_le P wf)

      -- the first alarm's cells changed
      alarm_changed : In changed' 0 → first_alarm_waits P (next_cells P F) ≡ true
      alarm_changed i =
          let d = f.differs 0 some_point i in
          let e : 0 * width P + d.0 ≡ d.0 = omega arith in
          above_at (next_cells P F) (width P) d.0 d.1 (λ z. absurd (omega (arith, d.2, second_at (0 * width P + d.0) (omega (arith, alarm_cell d.0 d.1)), z, ap (λ (c : ℕ). get_or (next_cells P F) c 0) e)))

      -- it waited before
      alarm_waits : first_alarm_waits P (take (cells P) F) ≡ true → first_alarm_waits P (next_cells P F) ≡ true
      alarm_waits e = go (first_alarm_waits P (next_cells P F)) refl
        where
          go : (b : Bool) → first_alarm_waits P (next_cells P F) ≡ b → b ≡ true
          go true q = refl
          go false q = absurd (true_not_false (sym e ∙ above_nowhere (take (cells P) F) (width P) (λ t h. omega (arith, n.no_lower t (alarm_cell t h), sym (get_or-take (width P) (next_cells P F) t 0 h) ∙ none_above (take (width P) (next_cells P F)) q t))))

      -- it does not
      alarm_still : first_alarm_waits P (take (cells P) F) ≡ false → (In changed' 0 → ⊥) → first_alarm_waits P (next_cells P F) ≡ false
      alarm_still e out = above_nowhere (next_cells P F) (width P) (λ t h. sym (second_at t (alarm_cell t h)) ∙ ap (λ (c : ℕ). get_or G' c 0) (first_zero t) ∙ kept 0 t some_point h out ∙ ap (λ (c : ℕ). get_or F c 0) (sym (first_zero t)) ∙ sym (first_at t (alarm_cell t h)) ∙ sym (get_or-take (width P) (take (cells P) F) t 0 h) ∙ none_above (take (width P) (take (cells P) F)) e t)
        where
          first_zero : (t : ℕ) → t ≡ 0 * width P + t
          first_zero t = omega arith

      tables_differ : (y : ℕ) → y < P.points → In changed' y → same (take (cells P) F) (next_cells P F) ≡ false
      tables_differ y h i = go (same (take (cells P) F) (next_cells P F)) refl
        where
          go : (b : Bool) → same (take (cells P) F) (next_cells P F) ≡ b → b ≡ false
          go false q = refl
          go true q =
              let d = f.differs y h i in
              let c = y * width P + d.0 in
              let k : c < cells P = cell_in y d.0 h d.1 in
              absurd (omega (arith, d.2, second_at c k, first_at c k, ap (λ (l : List ℕ). get_or l c 0) (same_eq (take (cells P) F) (next_cells P F) q)))

      tables_agree : changed' ≡ 0 → same (take (cells P) F) (next_cells P F) ≡ true
      tables_agree e = eq_same (take (cells P) F) (next_cells P F) (sym (ext_get_or 0 (next_cells P F) (take (cells P) F) (sized ∙ sym (length-take-le (cells P) F long)) (λ c h. at c (rw sized at h))))
        where
          wide : 0 < width P
          wide = one-le-mul (pow_pos P.links) (four_pos P.propositions)

          at : (c : ℕ) → c < cells P → get_or (next_cells P F) c 0 ≡ get_or (take (cells P) F) c 0
          at c h =
              let y = c / width P in
              let k = kept y (c % width P) ((div-lt_iff_lt-mul wide).1 h) (mod-lt c wide) (λ i. none_in y (subst (λ (s : ℕ). In s y) e i)) in
              sym (second_at c h) ∙ rw (div-add-mod' c (width P)) at k ∙ sym (first_at c h)

      -- once its raised cells are copied
      tables_same : take (cells P) F' ≡ take (cells P) G'
      tables_same = ap (take (cells P)) settled.target_is ∙ ap (take (cells P)) (laid_cut (cells P) G' F) ∙ front_is (cells P) (take (cells P) G') F (length-take-le (cells P) G' long')

      pub same_outside : (set : ℕ) → SameOutside P.points (width P) F' G' set
      same_outside set = record { cell = λ y t h k out. let i = cell_in y t h k in sym (get_or-take (cells P) F' (y * width P + t) 0 i) ∙ ap (λ (l : List ℕ). get_or l (y * width P + t) 0) tables_same ∙ get_or-take (cells P) G' (y * width P + t) 0 i }

      pub stops_is : (waits agree : Bool) → waits ≡ first_alarm_waits P (take (cells P) F) → agree ≡ same (take (P.points * width P) F') (take (P.points * width P) G')
          → stops_by waits changed' agree ≡ first_alarm_waits P (next_cells P F) || same (take (cells P) F) (next_cells P F)
      unfolding stops_by
      stops_is true agree w a = sym (ap (λ (b : Bool). b || same (take (cells P) F) (next_cells P F)) (alarm_waits (sym w)))
      stops_is false agree w a = go (contains changed' 0) refl
        where
          both : agree ≡ true
          both = a ∙ eq_same (take (cells P) F') (take (cells P) G') tables_same

          some : (e : changed' ≡ 0 → ⊥) → (In changed' 0 → ⊥) → false ≡ first_alarm_waits P (next_cells P F) || same (take (cells P) F) (next_cells P F)
          some e out = rw (alarm_still (sym w) out) (sym (differ (same (take (cells P) F) (next_cells P F)) refl))
            where
              differ : (b : Bool) → same (take (cells P) F) (next_cells P F) ≡ b → b ≡ false
              differ false q = refl
              differ true q = absurd (e (is_empty P.points changed' f.below (λ y h i. true_not_false (sym q ∙ tables_differ y h i))))

          go : (b : Bool) → contains changed' 0 ≡ b → b || (eqb changed' 0 && agree) ≡ first_alarm_waits P (next_cells P F) || same (take (cells P) F) (next_cells P F)
          go true q = sym (ap (λ (b : Bool). b || same (take (cells P) F) (next_cells P F)) (alarm_changed (subst Is (sym q) tt)))
          go false q = by (ℕ_discrete changed' 0)
            where
              out : In changed' 0 → ⊥
              out i = subst Is q i

              by : Dec (changed' ≡ 0) → eqb changed' 0 && agree ≡ first_alarm_waits P (next_cells P F) || same (take (cells P) F) (next_cells P F)
              by (yes e) = rw (eq-eqb changed' 0 e, both, alarm_still (sym w) out) (sym (tables_agree e))
              by (no e) = rw (ne_eqb changed' 0 e) (some e out)

-- ---- the tests that the code makes, in turn
module _ (waits : Bool) (changed : ℕ) (agree : Bool) where
  -- the first two tests say v
  pub stops_code : (v r : Bool) → v ≡ waits || contains changed 0 → r ≡ v || (eqb changed 0 && agree) → r ≡ stops_by waits changed agree
  unfolding stops_by
  stops_code v r e f = f ∙ ap (λ (b : Bool). b || (eqb changed 0 && agree)) e ∙ grouped waits (contains changed 0) (eqb changed 0 && agree)
    where
      grouped : (a b c : Bool) → (a || b) || c ≡ a || (b || c)
      grouped true b c = refl
      grouped false b c = refl

-- ---- the points to fill, with the first alarm where it is asked for
module _ (n : ℕ) (sets : List ℕ) (changed lined givers found : ℕ) (some : 0 < n) (concerned : Concerned n sets changed lined givers found) (over : Bool) where
  pub filled_with_first : Concerned n sets changed lined givers (bit_or found 1) × (over ≡ true → In (bit_or found 1) 0)
  filled_with_first =
      let one : 1 < 2 ^ n = pow-lt some in (
        record {
          below = union_below n found 1 concerned.below one;
          dependent_in = λ y x h c d. in_left found 1 x (concerned.dependent_in y x h c d);
          lined_in = λ x l c. in_left found 1 x (concerned.lined_in x l c);
          given_in = λ x y l c g. in_left found 1 x (concerned.given_in x y l c g);
        },
        λ e. in_right found 1 0 (own_bit 0),
      )

  pub filled_without : over ≡ false → Concerned n sets changed lined givers found × (over ≡ true → In found 0)
  filled_without e = (concerned, λ q. absurd (true_not_false (sym q ∙ e)))
