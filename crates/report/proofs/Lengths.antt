-- How long a text is: at most 196,608 bytes, whatever the input and the tables are.
use mathlib.Core.Path.{◌≡◌, refl}
use mathlib.Core.Bool.{Bool, true, false, cond}
use mathlib.Core.Logic.{◌⊎◌, inl, inr}
use mathlib.Core.List.{List, [], ◌++◌}
use Prim.Native.Nat.{ℕ, zero, suc, ◌+◌, ◌*◌, ◌^◌, ◌≤◌, ◌<◌}
use native.Mathlib.Nat.{suc-mul, mul-add, mul_assoc}
use native.Mathlib.Decide.{dec_le}
use native.Mathlib.Omega.{arith}
use lib.Dec.{ltb}
use lib.ListN.{length, get_or, drop, length-append, get_or-append, length-replicate}
use borrow.Author.Tests.{lt-ltb, le-ltb}
use Rattle.plan.specs.Plan.{Plan, width, cells}
use Rattle.plan.specs.Layout.{plan_of, most_bytes}
use Rattle.plan.specs.Refusal.{Accepted}
use Rattle.plan.proofs.Ranges.{accepted_well_formed, accepted_bounded}
use Rattle.rounds_tables.proofs.RoundLaws.{row_within}
use Rattle.rounds_making.specs.Rounds.{zeros}
use Rattle.rounds_making.specs.Outcomes.{Outcome, kept, broken, spent, refused, pick, run_outcome, run_table}
use Rattle.rounds_making.proofs.Stopping.{Stops, Running, stops_or_runs, ends_at, ends_spent}
use Rattle.rounds_making.proofs.TableLengths.{run_length}
use Rattle.rounds.specs.CheckOutcomes.{check_outcome, check_table}
use Rattle.rounds.specs.Meaning.{serving_limit}
use Rattle.rounds.proofs.Small.{run_small}
use Rattle.rounds.proofs.Checking.{check_runs, check_leaves, refuses_or_runs}
use Rattle.text.specs.Joined.{joined}
use Rattle.text.proofs.Decimals.{decimal_length}
use Rattle.report.specs.Text.{numbered_line, first_line, cell_text, point_line, is_refused, text_of}
use Rattle.report.specs.Printed.{program_outcome, program_table, printed}

-- ---- the parts of a text
joined_length : (f : ℕ → List ℕ) (b n : ℕ) → ((i : ℕ) → i < n → length (f i) ≤ b) → length (joined f n) ≤ n * b
unfolding joined
joined_length f b zero h = omega arith
joined_length f b (suc n) h = rw (length-append, suc-mul) (omega (arith, joined_length f b n (λ i k. h i (omega arith)), h n (omega arith)))

-- the number of an outcome
abbrev number_of : Outcome → ℕ
number_of (kept r) = r
number_of (broken r) = r
number_of (spent r) = r
number_of (refused n) = n

numbered_length : (word : List ℕ) (n : ℕ) → length word ≤ 8 → n < 10 ^ 11 → length (numbered_line word n) ≤ 20
unfolding numbered_line
numbered_length word n h k = rw (length-append, length-append) (omega (arith, decimal_length 10 n k))

pub first_length : (o : Outcome) → number_of o < 10 ^ 11 → length (first_line o) ≤ 20
unfolding first_line
first_length (kept r) h = numbered_length _ r (omega arith) h
first_length (broken r) h = numbered_length _ r (omega arith) h
first_length (spent r) h = numbered_length _ r (omega arith) h
first_length (refused n) h = numbered_length _ n (omega arith) h

-- cells below 10 to the 6
abbrev Small : List ℕ → ℕ → Type 0
Small T n = (c : ℕ) → c < n → get_or T c 0 < 10 ^ 6

cell_length : (T : List ℕ) (start c : ℕ) → get_or T (start + c) 0 < 10 ^ 6 → length (cell_text T start c) ≤ 7
unfolding cell_text
cell_length T start c h = omega (arith, decimal_length 5 (get_or T (start + c) 0) h)

point_length : (T : List ℕ) (w x : ℕ) → x < 100 → Small T (x * w + w) → length (point_line T w x) ≤ w * 7 + 3
unfolding point_line
point_length T w x h s =
    rw (length-append, length-append)
    (omega (arith, decimal_length 1 x h, joined_length (cell_text T (x * w)) 7 w (λ c k. cell_length T (x * w) c (s (x * w + c) (omega arith)))))

lines_length : (T : List ℕ) (w n : ℕ) → n ≤ 32 → n * w ≤ 16384 → Small T (n * w) → length (joined (point_line T w) n) ≤ 120000
lines_length T w n h k s =
    omega (
      arith,
      joined_length (point_line T w) (w * 7 + 3) n (λ x i. point_length T w x (omega arith) (λ c j. s c (omega (arith, row_within x n w i)))),
      mul-add n (w * 7) 3,
      mul_assoc n w 7,
    )

-- ---- the text of an outcome
refused_length : (k : ℕ) (P : Plan) (T : List ℕ) → k < 10 ^ 11 → length (text_of (refused k) P T) ≤ 196608
unfolding text_of
refused_length k P T h = rw length-append (omega (arith, first_length (refused k) h))

shown_length : (o : Outcome) (P : Plan) (T : List ℕ) → number_of o < 10 ^ 11 → P.points ≤ 32 → cells P ≤ 16384 → Small T (cells P) → length (text_of o P T) ≤ 196608
unfolding text_of
shown_length o P T h n k s = rw length-append (omega (arith, first_length o h, part (is_refused o)))
  where
    part : (b : Bool) → length (cond b [] (joined (point_line T (width P)) P.points)) ≤ 120000
    part true = omega arith
    part false = lines_length T (width P) P.points n k s

-- ---- what the check answers
pick_number : (b : Bool) (r : ℕ) → number_of (pick b (broken r) (kept r)) ≡ r
pick_number true r = refl
pick_number false r = refl

module _ (bs F G : List ℕ) (limit : ℕ) where
  module _ (accepted : Accepted bs) where
    -- the number is at most the limit
    run_number : number_of (run_outcome (plan_of bs) (zeros (plan_of bs)) limit) ≤ limit
    run_number = go (stops_or_runs P T limit)
      where
        P : Plan
        P = plan_of bs

        T : List ℕ
        T = zeros (plan_of bs)

        go : ((r : ℕ) × Stops P T limit r) ⊎ Running P T limit → number_of (run_outcome P T limit) ≤ limit
        go (inl (r, s)) = rw ((ends_at P T limit s.before s.within s.runs s.here).outcome_is, pick_number) s.within
        go (inr g) = rw (ends_spent P T limit g).outcome_is (omega arith)

    -- the cells are small
    run_cells : Small (run_table (plan_of bs) (zeros (plan_of bs)) limit) (cells (plan_of bs))
    run_cells c k =
        let d = accepted_bounded bs accepted in
        omega (arith, d.horizon_in, d.largest_in, run_small (plan_of bs) (accepted_well_formed bs accepted) limit c k)

    pub run_long : cells (plan_of bs) ≤ length F → cells (plan_of bs) ≤ length G → cells (plan_of bs) ≤ length (check_table bs F G limit F)
    run_long f g =
        rw (check_leaves bs F G limit accepted f g F, length-append)
        (omega (arith, run_length (plan_of bs) (accepted_well_formed bs accepted) (zeros (plan_of bs)) (length-replicate (cells (plan_of bs)) 0) limit))

  -- the text of what the check answers and leaves in the first table
  check_length : limit < 10 ^ 11 → length (text_of (check_outcome bs F G limit) (plan_of bs) (check_table bs F G limit F)) ≤ 196608
  check_length h = go (refuses_or_runs bs F G limit)
    where
      go : ((k : ℕ) × (check_outcome bs F G limit ≡ refused k) × (k ≤ 18)) ⊎ (Accepted bs × (cells (plan_of bs) ≤ length F) × (cells (plan_of bs) ≤ length G)) → length (text_of (check_outcome bs F G limit) (plan_of bs) (check_table bs F G limit F)) ≤ 196608
      go (inl (k, e, j)) = rw e (refused_length k (plan_of bs) (check_table bs F G limit F) (omega arith))
      go (inr (a, f, g)) =
          let d = accepted_bounded bs a in
          let R = run_table (plan_of bs) (zeros (plan_of bs)) limit in
          let long : length R ≡ cells (plan_of bs) = run_length (plan_of bs) (accepted_well_formed bs a) (zeros (plan_of bs)) (length-replicate (cells (plan_of bs)) 0) limit in
          rw (check_runs bs F G limit a f g, check_leaves bs F G limit a f g F)
          (shown_length (run_outcome (plan_of bs) (zeros (plan_of bs)) limit) (plan_of bs) (R ++ drop (cells (plan_of bs)) F) (omega (arith, run_number a)) d.points_in d.cells_in (λ c k. rw (get_or-append R (drop (cells (plan_of bs)) F) 0 c (omega arith)) (run_cells a c k)))

-- the program's output of 196,608 bytes holds every text
pub printed_length : (bs F G : List ℕ) → length (printed bs F G) ≤ 196608
unfolding printed program_outcome program_table
printed_length bs F G = go (dec_le (length bs) most_bytes)
  where
    go : Dec (length bs ≤ most_bytes) → length (text_of (cond (ltb most_bytes (length bs)) (refused 1) (check_outcome bs F G serving_limit)) (plan_of bs) (cond (ltb most_bytes (length bs)) F (check_table bs F G serving_limit F))) ≤ 196608
    go (yes h) = rw (le-ltb most_bytes (length bs) h) (check_length bs F G serving_limit (omega arith))
    go (no h) = rw (lt-ltb most_bytes (length bs) (omega arith)) (refused_length 1 (plan_of bs) F (omega arith))
