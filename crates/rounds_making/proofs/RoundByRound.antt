-- The loop of the rounds: what is known before each, from the first on, and that one round's answer makes it known of the next.
use mathlib.Core.Path.{◌≡◌, refl, sym, ap, ap₂, subst, ◌∙◌}
use mathlib.Core.Bool.{Bool, true, false, ◌||◌}
use mathlib.Core.List.{List}
use Prim.Native.Nat.{ℕ, ◌+◌, ◌-◌, ◌*◌, ◌^◌, ◌≤◌, ◌<◌}
use native.Mathlib.Nat.{mul-le-mul_right, suc-mul}
use native.Mathlib.Omega.{arith}
use lib.Bits.{bit_or}
use lib.Dec.{T as Is}
use lib.ListN.{length, get_or, take, replicate, length-replicate, get_or-replicate}
use lib.Pow.{pow_pos}
use lib.Seq.{length-take-le, take-take, get_or-take}
use Rattle.plan.specs.Plan.{Plan, width, cells}
use Rattle.plan.specs.Layout.{plan_of}
use Rattle.plan.specs.Horizons.{plan_with}
use Rattle.plan.proofs.Ranges.{WellFormed, accepted_bounded}
use Rattle.plan.proofs.Horizons.{with_well_formed}
use Rattle.plan.proofs.Widths.{width_small}
use Rattle.rules.proofs.FirstAlarm.{width_le}
use Rattle.rules_fill.specs.Shapes.{is_line}
use Rattle.rules_fill.specs.Parts.{next_cells, laid_over}
use Rattle.rules_fill.specs.Filling.{FillNumbers}
use Rattle.rules_rows.specs.declared.rows.Rows.{Rows}
use Rattle.rounds_points.specs.PointSets.{In, Sets, Dependents, Givers, Concerned}
use Rattle.rounds_points.proofs.PointSets.{in_all, all_below}
use Rattle.rounds_tables.specs.Cells.{same, any_above}
use Rattle.rounds_tables.specs.Ready.{Ready, NoNotes, SameOutside, RoundLent, Unaffected}
use Rattle.rounds_tables.specs.Known.{RoundNoted, SettleLent, AfterSettle, LinedBut, LinedIn, OverLent, NoneRaisedAbove, AllListed, Known}
use Rattle.rounds_tables.proofs.RoundLaws.{next_length}
use Rattle.rounds_tables.proofs.Covering.{covered_first}
use Rattle.rounds_tables.proofs.Affected.{unaffected}
use Rattle.rounds_making.specs.declared.making.Round.{Round}
use Rattle.rounds_making.specs.Rounds.{first_alarm_waits}
use Rattle.rounds_making.specs.Making.{stops_by, RoundReady, RoundMade, ListsLent, FirstLists}
use Rattle.rounds_making.specs.Runs.{RoomFrom}
use Rattle.rounds_making.proofs.RoundsMade.{front_is, laid_on, ready_on, Held, held_none, held_same, held_room, held_more}
use Rattle.rounds_making.proofs.OneRound.{lists_same, settle_lent, lined_but, over_lent, same_outside, stops_is, round_known}

-- ---- one round, from what its calls leave; the code's numbers n and w are the points and the cells of a point
module _ (P : Plan) (wf : WellFormed P) (F G G' : List ℕ) (long : cells P ≤ length F) (made : G' ≡ laid_over (cells P) (next_cells P F) G) (long' : cells P ≤ length G')
    (L C : List ℕ) (last : Round) (known : Known P (take (cells P) F) L C last.changed last.lined last.over) (waits : last.stops ≡ first_alarm_waits P (take (cells P) F)) where
  pub round_made : (F' D' L' C' : List ℕ) (r : Round) (agree : Bool) → AfterSettle P.points (width P) G' F F' D' L' C' r.changed → 2 * P.points ≤ length C' → LinedIn P.points C' r.lined
      → NoneRaisedAbove P.points (width P) P.horizon G' L' C' r.changed r.over → agree ≡ same (take (P.points * width P) F') (take (P.points * width P) G') → r.stops ≡ stops_by last.stops r.changed agree
      → length F' ≡ length F → length G' ≡ length G → RoundMade P (record { entry = F; exit = F' }) (record { entry = G; exit = G' }) L' C' D' r
  round_made F' D' L' C' r agree settled lc with_lines none agrees stops lf lg = record {
    stops_is = stops ∙ stops_is P wf F G G' long made long' L C last.changed last.lined last.over known F' D' L' C' r.changed settled last.stops agree waits agrees;
    first_is = settled.target_is ∙ ap (λ (l : List ℕ). laid_over (cells P) l F) made ∙ laid_on (cells P) (next_cells P F) G (next_length P wf F long) F;
    second_is = made;
    first_length = lf;
    second_length = lg;
    known = round_known P wf F G G' long made long' L C last.changed last.lined last.over known F' D' L' C' r.changed settled r.lined r.over lc with_lines none;
    no_notes = settled.no_notes;
  }

-- ---- before each round
-- both tables hold the table of round r, and what is known of it; the lists are as long as those that were lent
pub record Rounding (P : Plan) (F₀ G₀ L₀ C₀ N₀ : List ℕ) (r : ℕ) (F G L C N D : List ℕ) (last : Round) : Type 0 where
  pub held : Held P F₀ G₀ r F G
  pub known : Known P (take (cells P) F) L C last.changed last.lined last.over
  pub no_notes : NoNotes P.points D
  pub waits_is : last.stops ≡ first_alarm_waits P (take (cells P) F)
  pub lists_length : length L ≡ length L₀
  pub counts_length : length C ≡ length C₀
  pub notes_length : length N ≡ length N₀

module _ (bs M : List ℕ) (h : ℕ) (F₀ G₀ L₀ C₀ N₀ : List ℕ) (ready : Ready bs M h F₀ G₀) (room : RoomFrom (plan_with bs h) (take (cells (plan_of bs)) F₀)) (lined₀ : ℕ) (over₀ : Bool) (lent : ListsLent bs h F₀ L₀ C₀ N₀ lined₀ over₀) where
  P : Plan
  P = plan_with bs h

  wf : WellFormed (plan_with bs h)
  wf = with_well_formed bs ready.accepted h ready.horizon_far

  -- before the first, where every point counts as changed
  pub rounding_first : (D : List ℕ) (w : ℕ) (last : Round) → take (cells (plan_of bs)) G₀ ≡ take (cells (plan_of bs)) F₀ → NoNotes (plan_of bs).points D → w ≡ width (plan_of bs) → last.stops ≡ any_above (take w F₀) → last.changed ≡ 2 ^ (plan_of bs).points - 1 → last.lined ≡ lined₀
      → last.over ≡ over₀ → Rounding (plan_with bs h) F₀ G₀ L₀ C₀ N₀ 0 F₀ G₀ L₀ C₀ N₀ D last
  rounding_first D w last same none ew es ec el eo = record {
    held = held_none (plan_with bs h) F₀ G₀ same;
    known = record {
      lists_are = lent.lists_are;
      changed_in = record { below = rw ec (all_below (plan_of bs).points); has = λ y k p. rw ec (in_all (plan_of bs).points y k) };
      lined_in = rw el lent.lined_in;
      none_over = rw eo lent.none_over;
    };
    no_notes = none;
    waits_is = es ∙ ap any_above (ap (λ (v : ℕ). take v F₀) ew ∙ sym (take-take (width (plan_of bs)) (cells (plan_of bs)) F₀ (width_le (plan_with bs h) wf)));
    lists_length = refl;
    counts_length = refl;
    notes_length = refl;
  }

  module _ (r : ℕ) (F G L C N D : List ℕ) (last : Round) (at : Rounding (plan_with bs h) F₀ G₀ L₀ C₀ N₀ r F G L C N D last) where
    -- what the round is lent
    pub rounding_ready : RoundReady bs M h F G L C N D last
    rounding_ready = record {
      ready = ready_on bs M h F₀ G₀ F G ready at.held.first_length at.held.second_length;
      bound = held_room (plan_with bs h) wf F₀ ready.long_first G₀ r F G at.held room;
      same_cells = held_same (plan_with bs h) wf F₀ ready.long_first G₀ r F G at.held;
      known = at.known;
      lists_long = rw at.lists_length lent.lists_long;
      notes_long = rw at.notes_length lent.notes_long;
      no_notes = at.no_notes;
      waits_is = at.waits_is;
    }

    -- and what is known after one that does not stop
    module _ (F' G' L' C' N' D' : List ℕ) (made : Round) (t : RoundMade (plan_with bs h) (record { entry = F; exit = F' }) (record { entry = G; exit = G' }) L' C' D' made) where
      pub rounding_more : made.stops ≡ false → length L' ≡ length L → length C' ≡ length C → length N' ≡ length N → Rounding (plan_with bs h) F₀ G₀ L₀ C₀ N₀ (r + 1) F' G' L' C' N' D' made
      rounding_more e ll lc ln = record {
        held = held_more (plan_with bs h) wf F₀ ready.long_first G₀ r F G at.held F' G' L' C' D' made t e;
        known = rw front_then t.known;
        no_notes = t.no_notes;
        waits_is = e ∙ sym (ap (first_alarm_waits (plan_with bs h)) front_then ∙ left (first_alarm_waits (plan_with bs h) (next_cells (plan_with bs h) F)) _ (sym t.stops_is ∙ e));
        lists_length = ll ∙ at.lists_length;
        counts_length = lc ∙ at.counts_length;
        notes_length = ln ∙ at.notes_length;
      }
        where
          front_then : take (cells (plan_of bs)) F' ≡ next_cells (plan_with bs h) F
          front_then = ap (take (cells (plan_of bs))) t.first_is ∙ front_is (cells (plan_of bs)) (next_cells (plan_with bs h) F) F (next_length (plan_with bs h) wf F (rw at.held.first_length ready.long_first))

          left : (a b : Bool) → a || b ≡ false → a ≡ false
          left false b z = refl
          left true b z = z

-- ---- before the first round: all lines are listed
module _ (bs M : List ℕ) (h : ℕ) (F G : List ℕ) (ready : Ready bs M h F G) (L C : List ℕ) (lined : ℕ) (first : FirstLists (plan_of bs) F L C lined) (counts_long : 2 * (plan_of bs).points ≤ length C) where
  cut : (c : ℕ) → c < (plan_of bs).points * width (plan_of bs) → get_or F c 0 ≡ get_or (take (cells (plan_of bs)) F) c 0
  cut c k = sym (get_or-take (cells (plan_of bs)) F c 0 k)

  listed : AllListed (plan_of bs).points (width (plan_of bs)) (take (cells (plan_of bs)) F) L C
  listed = record {
    lists_are = λ y k. lists_same (plan_of bs).points (width (plan_of bs)) F (take (cells (plan_of bs)) F) L C cut y k (first.all_listed.lists_are y k);
    lines_raised = λ y t k l i. first.all_listed.lines_raised y t k l (subst (λ (v : ℕ). Is (is_line t v)) (sym (cut (y * width (plan_of bs) + t) (omega (arith, rw suc-mul at (mul-le-mul_right (width (plan_of bs)) k))))) i);
  }

  pub first_lent : (N : List ℕ) (over : Bool) → (2 * (plan_of bs).points) * width (plan_of bs) ≤ length L → cells (plan_of bs) ≤ length N → (over ≡ false → (c : ℕ) → c < cells (plan_of bs) → get_or F c 0 ≡ 0) → ListsLent bs h F L C N lined over
  first_lent N over ll ln zero = record {
    lists_long = ll;
    notes_long = ln;
    lists_are = record {
      counts_long = counts_long;
      of_point = listed.lists_are;
      covered = covered_first (plan_with bs h) (with_well_formed bs ready.accepted h ready.horizon_far) (take (cells (plan_of bs)) F) L C (length-take-le (cells (plan_of bs)) F ready.long_first) listed;
    };
    lined_in = first.lined_in;
    none_over = record { none = λ e y t k l r. let i : y * width (plan_of bs) + t < cells (plan_of bs) = omega (arith, rw suc-mul at (mul-le-mul_right (width (plan_of bs)) k)) in omega (arith, zero e (y * width (plan_of bs) + t) i, cut (y * width (plan_of bs) + t) i) };
  }

-- ---- one round, call by call
-- with the plan's rows, and a set of points to fill: the others keep their cells
pub record Filling (bs M : List ℕ) (h : ℕ) (F G L C N D : List ℕ) (rows : Rows) (w mask set : ℕ) (last : Round) : Type 0 where
  pub of : RoundReady bs M h F G L C N D last
  pub rows_are : rows.plan.now ≡ bs
  pub numbers : FillNumbers bs w mask
  pub set_below : set < 2 ^ (plan_of bs).points
  pub unaffected : Unaffected (plan_with bs h) (take (cells (plan_of bs)) F) set

-- what finding the points to fill is lent; the code's number n is the points
pub to_fill_lends : (P : Plan) (sets : List ℕ) (n changed lined : ℕ) → n ≡ P.points → Dependents P sets → changed < 2 ^ P.points → lined < 2 ^ P.points → 1 < P.points → Sets n sets × (changed < 2 ^ n) × (lined < 2 ^ n) × (0 < n)
to_fill_lends P sets n changed lined e d c l two = (rw e d.are_sets, rw e c, rw e l, omega arith)

-- the points that a round concerns are such a set
pub filling : {bs M : List ℕ} {h : ℕ} {F G L C N D : List ℕ} {last : Round} → RoundReady bs M h F G L C N D last → {rows : Rows} {sets : List ℕ} {w mask givers n : ℕ} (set : ℕ) → rows.plan.now ≡ bs → FillNumbers bs w mask → Dependents (plan_of bs) sets → Givers (plan_of bs) givers
    → n ≡ (plan_of bs).points → Concerned n sets last.changed last.lined givers set × (last.over ≡ true → In set 0) → Filling bs M h F G L C N D rows w mask set last
filling {bs} {M} {h} {F} {G} {L} {C} {N} {D} {last} r {rows} {sets} {w} {mask} {givers} {n} set rows_are numbers dependents giving en among = record {
  of = r;
  rows_are = rows_are;
  numbers = numbers;
  set_below = concerned.below;
  unaffected = unaffected (plan_with bs h) (with_well_formed bs r.ready.accepted h r.ready.horizon_far) (take (cells (plan_of bs)) F) (length-take-le (cells (plan_of bs)) F r.ready.long_first) L C sets last.changed last.lined givers set set last.over r.known (record { are_sets = dependents.are_sets; by_edge = dependents.by_edge; by_activation = dependents.by_activation; by_finish = dependents.by_finish }) (record { activation_in = giving.activation_in; observer_in = giving.observer_in }) concerned (λ x i. i) among.1;
}
  where
    concerned : Concerned (plan_of bs).points sets last.changed last.lined givers set
    concerned = rw en at among.0

module _ {bs M : List ℕ} {h : ℕ} {F G L C N D : List ℕ} {rows : Rows} {w mask set : ℕ} {last : Round} (q : Filling bs M h F G L C N D rows w mask set last) where
  r : RoundReady bs M h F G L C N D last
  r = q.of

  -- what filling the points is lent
  pub fill_lends : RoundLent bs M h F G L C rows N D w mask set last.over
  fill_lends = record {
    ready = r.ready;
    bound = r.bound;
    same_cells = r.same_cells;
    rows_are = q.rows_are;
    numbers = q.numbers;
    lists_are = r.known.lists_are;
    none_over = r.known.none_over;
    notes_long = r.notes_long;
    no_notes = r.no_notes;
    set_below = q.set_below;
    unaffected = q.unaffected;
  }

  well : WellFormed (plan_with bs h)
  well = with_well_formed bs r.ready.accepted h r.ready.horizon_far

  few : (plan_of bs).points ≤ 32
  few = (accepted_bounded bs r.ready.accepted).points_in

  -- the second table, the notes and their numbers afterwards
  module _ (n : ℕ) (G' N' D' : List ℕ) (en : n ≡ (plan_of bs).points) (made : G' ≡ laid_over (cells (plan_of bs)) (next_cells (plan_with bs h) F) G) (noted : RoundNoted (plan_of bs).points w F G' N' D' set) (lg : length G' ≡ length G) where
    long' : cells (plan_of bs) ≤ length G'
    long' = rw lg r.ready.long_second

    pub settle_lends : length N' ≡ length N → SettleLent n w G' F N' D' L C (bit_or set last.changed)
    settle_lends ln =
        let b = accepted_bounded bs r.ready.accepted in
        let narrow = width_small (plan_of bs).links (plan_of bs).propositions b.links_in b.propositions_in in
        rw (en, q.numbers.width_is) (settle_lent (plan_with bs h) well F G G' r.ready.long_first made long' L C last.changed last.lined last.over r.known N' D' set few (omega (arith, narrow)) r.lists_long (rw ln r.notes_long) q.set_below (rw q.numbers.width_is at noted))

    -- and the copy of noted cells
    module _ (F' D'' L' C' : List ℕ) (changed : ℕ) (settled : AfterSettle n w G' F F' D'' L' C' changed) (lc : length C' ≡ length C) where
      after : AfterSettle (plan_of bs).points (width (plan_of bs)) G' F F' D'' L' C' changed
      after = rw (en, q.numbers.width_is) at settled

      counts_long : 2 * (plan_of bs).points ≤ length C'
      counts_long = rw lc r.known.lists_are.counts_long

      pub lined_lends : LinedBut n C' changed last.lined
      lined_lends = rw en (lined_but (plan_with bs h) well F G G' r.ready.long_first made long' L C last.changed last.lined last.over r.known F' D'' L' C' changed after few counts_long)

      pub over_lends : OverLent n w G' L' C' changed
      over_lends = rw (en, q.numbers.width_is) (over_lent (plan_with bs h) well F G G' r.ready.long_first made long' L C last.changed last.lined last.over r.known F' D'' L' C' changed after few counts_long)

      pub stops_lends : length F' ≡ length F → ((n ≤ 32) × (n * w ≤ length F') × (n * w ≤ length G')) × SameOutside n w F' G' set
      stops_lends lf = (
        (rw en few, rw (en, q.numbers.width_is, lf) r.ready.long_first, rw (en, q.numbers.width_is) long'),
        rw (en, q.numbers.width_is) (same_outside (plan_with bs h) well F G G' r.ready.long_first made long' L C last.changed last.lined last.over r.known F' D'' L' C' changed after set),
      )

      pub round_ends : (made' : Round) → made'.changed ≡ changed → LinedIn n C' made'.lined → NoneRaisedAbove n w h G' L' C' changed made'.over → made'.stops ≡ stops_by last.stops changed (same (take (n * w) F') (take (n * w) G')) → length F' ≡ length F
          → RoundMade (plan_with bs h) (record { entry = F; exit = F' }) (record { entry = G; exit = G' }) L' C' D'' made'
      round_ends made' ec lines none stops lf =
          round_made (plan_with bs h) well F G G' r.ready.long_first made long' L C last r.known r.waits_is F' D'' L' C' made' (same (take ((plan_of bs).points * width (plan_of bs)) F') (take ((plan_of bs).points * width (plan_of bs)) G')) (rw ec after) counts_long (rw en at lines)
          (rw ec (rw (en, q.numbers.width_is) at none)) refl (stops ∙ ap₂ (λ (c : ℕ) (b : Bool). stops_by last.stops c b) (sym ec) (ap (λ (m : ℕ). same (take m F') (take m G')) (ap₂ (λ (a b : ℕ). a * b) en q.numbers.width_is))) lf lg

-- ---- arrays of zeros
zero_at : (y : ℕ) → y < 32 → ◌≡◌ {A = ℕ} (get_or (replicate 32 0) y 0) 0
zero_at y h = get_or-replicate 32 y 0 0 h

pub no_sets : (n : ℕ) → n ≤ 32 → Sets n (replicate 32 0)
no_sets n few = record { few = few; long = simp length-replicate (omega arith); below = λ y h. rw (zero_at y (omega arith)) (pow_pos n) }

pub none_noted : (n : ℕ) → n ≤ 32 → NoNotes n (replicate 32 0)
none_noted n few = record { long = simp length-replicate (omega arith); none = λ y h. zero_at y (omega arith) }
