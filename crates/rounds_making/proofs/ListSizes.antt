-- The lists before the first round: arrays of zeros and ones that are large enough for the plan are all that is asked, whatever their size.
use mathlib.Core.Path.{◌≡◌, refl, sym, ap, ◌∙◌}
use mathlib.Core.Bool.{Bool, true, false, not}
use mathlib.Core.List.{List}
use Prim.Native.Nat.{ℕ, ◌+◌, ◌-◌, ◌*◌, ◌^◌, ◌≤◌, ◌<◌}
use native.Mathlib.Nat.{one-le-mul, mul_assoc}
use native.Mathlib.Decide.{dec_lt}
use native.Mathlib.Omega.{arith}
use lib.ListN.{length, get_or, take, replicate, length-replicate, get_or-replicate, get_or-eq_default}
use lib.Seq.{get_or-take}
use lib.Pow.{pow_pos}
use Rattle.plan.specs.Plan.{width, cells}
use Rattle.plan.specs.Layout.{plan_of}
use Rattle.plan.specs.Horizons.{plan_with}
use Rattle.plan.specs.Refusal.{Accepted}
use Rattle.plan.proofs.LabelLaws.{four_pos}
use Rattle.plan.proofs.Ranges.{accepted_bounded}
use Rattle.rounds_points.proofs.PointSets.{all_below, in_all}
use Rattle.rounds_tables.specs.Ready.{Ready}
use Rattle.rounds_tables.specs.Known.{AllListed}
use Rattle.rounds_making.specs.Making.{ListsLent, FirstLent, FirstLists}
use Rattle.rounds_making.specs.Runs.{RoomFrom, RunLent}
use Rattle.rounds_making.proofs.ZeroLists.{zeros_listed}
use Rattle.rounds_making.proofs.RoundByRound.{first_lent}

-- ---- the lists that a table starts with
module _ (bs F L C : List ℕ) (z : Bool) (lent : FirstLent bs F L C z) where
  -- of a table of zeros: no point has a line beside the starting line
  pub zeros_first : z ≡ true → FirstLists (plan_of bs) F L C 0
  zeros_first e = record {
    all_listed = zeros_listed (plan_of bs).points (width (plan_of bs)) F L C (one-le-mul (pow_pos (plan_of bs).links) (four_pos (plan_of bs).propositions)) lent.lists_long (lent.cells_none e) lent.places_none lent.counts_one;
    lined_in = record { below = pow_pos (plan_of bs).points; has = λ y h k. absurd (omega (arith, lent.counts_one (2 * y + 1) (omega arith))) };
  }

-- of any table, with the code's numbers n and w: the set has all points
module _ (bs : List ℕ) (accepted : Accepted bs) (n : ℕ) (en : n ≡ (plan_of bs).points) where
  pub points_few : n ≤ 32
  points_few = omega (arith, (accepted_bounded bs accepted).points_in)

  module _ (F L C : List ℕ) (w : ℕ) (ew : w ≡ width (plan_of bs)) where
    pub lines_first : AllListed n w F L C → FirstLists (plan_of bs) F L C (2 ^ n - 1)
    lines_first listed = rw en (record {
      all_listed = rw (en, ew) at listed;
      lined_in = record { below = all_below (plan_of bs).points; has = λ y h k. in_all (plan_of bs).points y h };
    })

    pub lines_room : (z : Bool) → w ≤ 4096 → FirstLent bs F L C z → (n * w ≤ length F) × ((2 * n) * w ≤ length L) × (2 * n ≤ length C) × (w ≤ 65536)
    lines_room z narrow lent = (rw (en, ew) lent.long_first, rw (en, ew) lent.lists_long, rw en lent.counts_long, omega (arith, narrow))

-- ---- so many entries, all the same
abbrev entries : ℕ → ℕ → List ℕ
entries m v = replicate m v

entries_length : (m v : ℕ) → length (entries m v) ≡ m
entries_length m v = length-replicate m v

zeros_at : (m c : ℕ) → get_or (entries m 0) c 0 ≡ 0
zeros_at m c = go (dec_lt c m)
  where
    go : Dec (c < m) → get_or (entries m 0) c 0 ≡ 0
    go (yes h) = get_or-replicate m c 0 0 h
    go (no h) = get_or-eq_default (entries m 0) 0 {n = c} (rw (entries_length m 0) (omega arith))

-- ---- lists of m places, which is 2 k, with k notes and 64 counts, for a plan of at most k cells
module _ (bs M : List ℕ) (h : ℕ) (F G : List ℕ) (z : Bool) (lent : RunLent bs M h F G z) (k m : ℕ) (few_cells : cells (plan_of bs) ≤ k) (double : m ≡ 2 * k) where
  cells_none : z ≡ true → (c : ℕ) → c < cells (plan_of bs) → get_or F c 0 ≡ 0
  cells_none e c l = sym (get_or-take (cells (plan_of bs)) F c 0 l) ∙ ap (λ (t : List ℕ). get_or t c 0) (lent.zeros_are e) ∙ get_or-replicate (cells (plan_of bs)) c 0 0 l

  few_places : (2 * (plan_of bs).points) * width (plan_of bs) ≤ m
  few_places = omega (arith, mul_assoc 2 (plan_of bs).points (width (plan_of bs)), few_cells)

  pub first_room : Accepted bs × FirstLent bs F (entries m 0) (entries 64 1) z
  first_room = (
    lent.ready.accepted,
    record {
      long_first = lent.ready.long_first;
      lists_long = rw (entries_length m 0) few_places;
      counts_long = omega (arith, entries_length 64 1, (accepted_bounded bs lent.ready.accepted).points_in);
      cells_none = cells_none;
      places_none = zeros_at m;
      counts_one = λ c l. get_or-replicate 64 c 1 0 (omega (arith, (accepted_bounded bs lent.ready.accepted).points_in));
    },
  )

  pub lists_room : (L C : List ℕ) (lined : ℕ) → FirstLists (plan_of bs) F L C lined → length L ≡ length (entries m 0) → length C ≡ length (entries 64 1)
      → Ready bs M h F G × (RoomFrom (plan_with bs h) (take (cells (plan_of bs)) F) × ((take (cells (plan_of bs)) G ≡ take (cells (plan_of bs)) F) × ListsLent bs h F L C (entries k 0) lined (not z)))
  lists_room L C lined first ll lc = (lent.ready, (lent.room_from, (lent.same_cells, listed)))
    where
      truth : (b : Bool) → not b ≡ false → b ≡ true
      truth true e = refl
      truth false e = sym e

      listed : ListsLent bs h F L C (entries k 0) lined (not z)
      listed = first_lent bs M h F G lent.ready L C lined first (omega (arith, lc, entries_length 64 1, (accepted_bounded bs lent.ready.accepted).points_in)) (entries k 0) (not z) (rw (ll, entries_length m 0) few_places) (rw (entries_length k 0) few_cells) (λ e. cells_none (truth z e))
