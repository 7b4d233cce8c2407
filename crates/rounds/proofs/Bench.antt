-- The ten bench plans (16.1): none is turned down, and with any limit from 8 on the check answers as the table says.
use mathlib.Core.Path.{◌≡◌, refl, ap, ◌∙◌}
use mathlib.Core.Bool.{Bool, true, false}
use mathlib.Core.List.{List, [], ◌∷◌, map}
use Prim.Native.Nat.{ℕ, ◌≤◌}
use native.Mathlib.Omega.{arith}
use Rattle.plan.specs.Bytes.{byte_at, word_at}
use Rattle.plan.specs.Label.{digit, join_digit, join, plain, clear_digit}
use Rattle.plan.specs.LinkSet.{contains, union, insert, remove}
use Rattle.plan.specs.Layout.{ends_at, data_at, row_of_edge, up_of, down_of, greatest, most_at, down_at, largest_of, plan_of, spare_at, length_for, label_bytes, labelled_length_for}
use Rattle.plan.specs.Refusal.{every, differs, sizes_fit, observer_fits, link_ends_fit, duration_fits, is_link_fit, edge_ends_fit, label_fits, edge_fits, refusal_of, refusal, some, length_fits, point_label_fits, contains_label, contains_observers, puts_after, comes_after, point_well_defined, edge_well_defined, link_well_defined, well_defined}
use Rattle.rules.specs.Tables.{raise_cell, next}
use Rattle.rounds_making.specs.Rounds.{zeros}
use Rattle.rounds_making.specs.Outcomes.{Outcome, kept, broken, pick, run_outcome, run_table}
use Rattle.rounds_making.proofs.Stopping.{ends_more}
use Rattle.rounds.specs.Meaning.{serving_limit}

-- a plan's bytes, whether it is broken, R, and the cells of that round's table
pub record Row : Type 0 where
  pub bytes : List ℕ
  pub is_broken : Bool
  pub rounds : ℕ
  pub cells : List ℕ

abbrev keeps : List ℕ → ℕ → List ℕ → Row
keeps bs r A = record { bytes = bs; is_broken = false; rounds = r; cells = A }

abbrev breaks : List ℕ → ℕ → List ℕ → Row
breaks bs r A = record { bytes = bs; is_broken = true; rounds = r; cells = A }

-- c1 to c10
abbrev pub rows : List Row
rows =
    keeps (2 ∷ 0 ∷ 0 ∷ 2 ∷ 0 ∷ 1 ∷ 1 ∷ 0 ∷ 0 ∷ 5 ∷ 0 ∷ 0 ∷ 255 ∷ 253 ∷ 0 ∷ 0 ∷ []) 2 (0 ∷ 3 ∷ [])
    ∷ breaks (2 ∷ 0 ∷ 0 ∷ 2 ∷ 0 ∷ 1 ∷ 1 ∷ 0 ∷ 0 ∷ 5 ∷ 0 ∷ 0 ∷ 255 ∷ 250 ∷ 0 ∷ 0 ∷ []) 2 (1 ∷ 6 ∷ [])
    ∷ keeps (2 ∷ 0 ∷ 0 ∷ 0 ∷ []) 1 (0 ∷ 0 ∷ [])
    ∷ breaks (3 ∷ 0 ∷ 0 ∷ 2 ∷ 1 ∷ 2 ∷ 2 ∷ 1 ∷ 255 ∷ 255 ∷ 0 ∷ 0 ∷ 0 ∷ 0 ∷ 0 ∷ 0 ∷ []) 8 (1 ∷ 4 ∷ 4 ∷ [])
    ∷ keeps (2 ∷ 0 ∷ 1 ∷ 0 ∷ 0 ∷ 1 ∷ 0 ∷ 2 ∷ 0 ∷ 5 ∷ []) 2 (0 ∷ 0 ∷ 2 ∷ 5 ∷ [])
    ∷ breaks (2 ∷ 0 ∷ 1 ∷ 1 ∷ 0 ∷ 1 ∷ 0 ∷ 1 ∷ 0 ∷ 2 ∷ 0 ∷ 5 ∷ 0 ∷ 4 ∷ 0 ∷ 0 ∷ []) 2 (0 ∷ 1 ∷ 2 ∷ 5 ∷ [])
    ∷ breaks (2 ∷ 0 ∷ 1 ∷ 1 ∷ 0 ∷ 1 ∷ 1 ∷ 0 ∷ 0 ∷ 2 ∷ 0 ∷ 5 ∷ 255 ∷ 253 ∷ 0 ∷ 0 ∷ []) 2 (1 ∷ 0 ∷ 3 ∷ 5 ∷ [])
    ∷ keeps (2 ∷ 0 ∷ 1 ∷ 1 ∷ 0 ∷ 1 ∷ 1 ∷ 0 ∷ 0 ∷ 2 ∷ 0 ∷ 5 ∷ 255 ∷ 254 ∷ 0 ∷ 0 ∷ []) 2 (0 ∷ 0 ∷ 2 ∷ 5 ∷ [])
    ∷ breaks (3 ∷ 1 ∷ 0 ∷ 3 ∷ 1 ∷ 1 ∷ 0 ∷ 2 ∷ 0 ∷ 0 ∷ 2 ∷ 255 ∷ 251 ∷ 0 ∷ 0 ∷ 255 ∷ 252 ∷ 1 ∷ 0 ∷ 0 ∷ 3 ∷ 2 ∷ 0 ∷ []) 3 (0 ∷ 0 ∷ 1 ∷ 0 ∷ 5 ∷ 0 ∷ 0 ∷ 0 ∷ 4 ∷ 4 ∷ 0 ∷ 0 ∷ [])
    ∷ keeps (3 ∷ 1 ∷ 0 ∷ 3 ∷ 1 ∷ 1 ∷ 0 ∷ 2 ∷ 0 ∷ 0 ∷ 2 ∷ 255 ∷ 253 ∷ 0 ∷ 0 ∷ 255 ∷ 252 ∷ 1 ∷ 0 ∷ 0 ∷ 3 ∷ 2 ∷ 0 ∷ []) 3 (0 ∷ 0 ∷ 0 ∷ 0 ∷ 3 ∷ 0 ∷ 0 ∷ 0 ∷ 3 ∷ 4 ∷ 0 ∷ 0 ∷ [])
    ∷ []

-- the number of a refusal or 0, the outcome, and the cells of the table
pub record Findings : Type 0 where
  pub turned_down : ℕ
  pub outcome : Outcome
  pub table : List ℕ

-- what 16.1 says
abbrev pub listed : Row → Findings
listed row = record { turned_down = 0; outcome = pick row.is_broken (broken row.rounds) (kept row.rounds); table = row.cells }

-- what the definitions say
abbrev pub checked : ℕ → Row → Findings
checked limit row =
    let P = plan_of row.bytes in
    record { turned_down = refusal row.bytes; outcome = run_outcome P (zeros P) limit; table = run_table P (zeros P) limit }

-- by computation
with_eight : map (checked 8) rows ≡ map listed rows
unfolding byte_at word_at digit join_digit join plain clear_digit contains union insert remove label_bytes ends_at data_at row_of_edge up_of down_of greatest most_at down_at largest_of plan_of spare_at length_for every differs sizes_fit observer_fits link_ends_fit duration_fits is_link_fit edge_ends_fit label_fits edge_fits labelled_length_for some length_fits point_label_fits contains_label contains_observers puts_after comes_after point_well_defined edge_well_defined link_well_defined well_defined refusal_of refusal raise_cell next
with_eight = refl

module _ (limit : ℕ) (h : 8 ≤ limit) where
  one_more : (row : Row) → checked 8 row ≡ listed row → checked limit row ≡ listed row
  one_more row e =
      let P = plan_of row.bytes in
      let d = ends_more P (zeros P) limit 8 h row.is_broken row.rounds (ap (λ (a : Findings). a.outcome) e) in
      (λ i. record { turned_down = refusal row.bytes; outcome = d.outcome_is i; table = d.table_is i }) ∙ e

  all_more : (rs : List Row) → map (checked 8) rs ≡ map listed rs → map (checked limit) rs ≡ map listed rs
  all_more [] e = refl
  all_more (row ∷ rs) e =
      let a : checked 8 row ≡ listed row = cc in
      let b : map (checked 8) rs ≡ map listed rs = cc in
      λ i. one_more row a i ∷ all_more rs b i

  pub bench : map (checked limit) rows ≡ map listed rows
  bench = all_more rows with_eight

-- with the limit that serves every accepted plan
pub bench_always : map (checked serving_limit) rows ≡ map listed rows
bench_always = bench serving_limit (omega arith)
