-- For inner contracts only: the bytes of a plan with some of its edge rows, in the form without labels of points. Nothing here is to be believed: the laws of proofs/ say which plan they are.
use Rattle.std.specs.Prelude.{cond, List, [], ◌∷◌, ◌++◌, ℕ, zero, suc, ◌+◌, ◌-◌, ◌*◌, ◌/◌, ◌%◌, ◌≤◌, ◌<◌, ltb, eqb, length, get_or}
use Rattle.plan.specs.Bytes.{byte_at}
use Rattle.plan.specs.Plan.{Plan}
use Rattle.plan.specs.Layout.{plan_of, labels_at, label_bytes, ends_at, data_at, row_of_edge, length_for}
use Rattle.plan_rows.specs.Rows.{with_rows}

-- a list of rows of the plan, no more than it has
pub record RowsIn (P : Plan) (rows : List ℕ) : Type 0 where
  pub few : length rows ≤ P.edges
  pub row_in : (i : ℕ) → i < length rows → get_or rows i 0 < P.edges

-- where byte i of the plan with these rows, and without labels of points, stands in the whole plan:
-- sizes and observing points; the links' ends; the rows' ends; the links' data; the rows' data
unfoldable pub source_of : List ℕ → List ℕ → ℕ → ℕ
source_of bs rows i =
    let ends = labels_at bs + 2 * byte_at bs 2 in
    let link_data = ends + 2 * length rows in
    let edge_data = link_data + 4 * byte_at bs 2 in
    cond (ltb i (labels_at bs)) i
    (cond (ltb i ends) (label_bytes bs + i)
    (cond (ltb i link_data) (ends_at bs (row_of_edge bs (get_or rows ((i - ends) / 2) 0)) + (i - ends) % 2)
    (cond (ltb i edge_data) (data_at bs 0 + (i - link_data)) (data_at bs (row_of_edge bs (get_or rows ((i - edge_data) / 4) 0)) + (i - edge_data) % 4))))

-- byte i: byte 3 counts the rows
unfoldable pub row_byte : List ℕ → List ℕ → ℕ → ℕ
row_byte bs rows i = cond (eqb i 3) (length rows) (byte_at bs (source_of bs rows i))

-- the first n bytes
unfoldable pub row_bytes_to : List ℕ → List ℕ → ℕ → List ℕ
row_bytes_to bs rows zero = []
row_bytes_to bs rows (suc n) = row_bytes_to bs rows n ++ (row_byte bs rows n ∷ [])

-- all bytes
unfoldable pub rows_bytes : List ℕ → List ℕ → List ℕ
rows_bytes bs rows = row_bytes_to bs rows (length_for (with_rows (plan_of bs) rows))
