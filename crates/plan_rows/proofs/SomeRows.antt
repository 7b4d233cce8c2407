-- A plan with some of its edge rows is well-formed, and has only rows of the plan and of a longer list; with all of them it has every row.
use mathlib.Core.Path.{◌≡◌, refl, sym, ap}
use mathlib.Core.List.{List}
use Prim.Native.Nat.{ℕ, ◌<◌}
use lib.ListN.{length, get_or}
use Rattle.plan.specs.Plan.{Plan}
use Rattle.plan.proofs.Ranges.{WellFormed}
use Rattle.plan.proofs.Fewer.{FewerRows}
use Rattle.plan_rows.specs.Rows.{with_edges, with_rows}
use Rattle.plan_rows.specs.RowBytes.{RowsIn}

pub some_well_formed : {P : Plan} → WellFormed P → (rows : List ℕ) → RowsIn P rows → WellFormed (with_rows P rows)
some_well_formed wf rows within = record {
  two = wf.two;
  observer_in = wf.observer_in;
  activation_in = wf.activation_in;
  finish_in = wf.finish_in;
  durations = wf.durations;
  from_in = λ i h. wf.from_in (get_or rows i 0) (within.row_in i h);
  to_in = λ i h. wf.to_in (get_or rows i 0) (within.row_in i h);
  label_in = λ i h. wf.label_in (get_or rows i 0) (within.row_in i h);
  label_plain = λ i h. wf.label_plain (get_or rows i 0) (within.row_in i h);
  most_le = wf.most_le;
  down_le = λ i h. wf.down_le (get_or rows i 0) (within.row_in i h);
  horizon_far = wf.horizon_far;
  observer_once = wf.observer_once;
  finish_once = wf.finish_once;
  finish_observes_none = wf.finish_observes_none;
}

fewer_by : (P : Plan) (m n : ℕ) (f g : ℕ → ℕ) → ((i : ℕ) → i < m → (j : ℕ) × (j < n) × (g j ≡ f i)) → FewerRows (with_edges P m f) (with_edges P n g)
fewer_by P m n f g among = record {
  points_are = refl;
  propositions_are = refl;
  links_are = refl;
  observer_is = λ j h. refl;
  activation_is = λ i h. refl;
  finish_is = λ i h. refl;
  least_is = λ i h. refl;
  most_is = λ i h. refl;
  edge_among = λ i h. let a = among i h in let e = sym a.2 in (a.0, a.1, record { from_is = ap P.from e; to_is = ap P.to e; up_is = ap P.up e; down_is = ap P.down e; label_is = ap P.label e });
  horizon_is = refl;
}

pub some_fewer : (P : Plan) (rows more : List ℕ) → ((i : ℕ) → i < length rows → (j : ℕ) × (j < length more) × (get_or more j 0 ≡ get_or rows i 0)) → FewerRows (with_rows P rows) (with_rows P more)
some_fewer P rows more = fewer_by P (length rows) (length more) (λ i. get_or rows i 0) (λ j. get_or more j 0)

pub some_of_all : (P : Plan) (rows : List ℕ) → RowsIn P rows → FewerRows (with_rows P rows) P
some_of_all P rows within = fewer_by P (length rows) P.edges (λ i. get_or rows i 0) (λ j. j) (λ i h. (get_or rows i 0, within.row_in i h, refl))

pub all_rows_lem : (P : Plan) (rows : List ℕ) → ((r : ℕ) → r < P.edges → (i : ℕ) × (i < length rows) × (get_or rows i 0 ≡ r)) → FewerRows P (with_rows P rows)
all_rows_lem P rows = fewer_by P P.edges (length rows) (λ i. i) (λ j. get_or rows j 0)
