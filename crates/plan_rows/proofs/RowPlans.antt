-- The bytes of a plan with some of its rows: they are that plan, with the whole plan's horizon handed in; they are accepted; their own horizon is no farther.
use mathlib.Core.Path.{◌≡◌, refl, sym, ap, ap₂, ◌∙◌}
use mathlib.Core.List.{List}
use Prim.Native.Nat.{ℕ, ◌+◌, ◌*◌, ◌≤◌, ◌<◌}
use native.Mathlib.Nat.{le_trans, add-zero, add_assoc, mul-le-mul_left}
use native.Mathlib.Omega.{arith}
use lib.Dec.{T as Is}
use lib.ListN.{length, get_or}
use Rattle.plan.specs.Bytes.{byte_at, word_at}
use Rattle.plan.specs.Plan.{Plan}
use Rattle.plan.specs.Layout.{labels_at, label_bytes, ends_at, data_at, row_of_edge, up_of, down_of, most_at, down_at, plan_of, spare_at, length_for}
use Rattle.plan.specs.Horizons.{plan_with}
use Rattle.plan.specs.Refusal.{length_fits, refusal, Accepted}
use Rattle.plan.proofs.Ranges.{judged, judged_none, own_length, largest_under, horizon_is, accepted_well_formed, accepted_bounded, accepted_spare}
use Rattle.plan.proofs.Fewer.{SameEdge, FewerRows, fewer_trans, fewer_judged}
use Rattle.plan.proofs.Forms.{labels_absent, label_none}
use Rattle.plan_rows.specs.Rows.{with_rows}
use Rattle.plan_rows.specs.RowBytes.{RowsIn, row_byte, rows_bytes}
use Rattle.plan_rows.proofs.SomeRows.{some_of_all}
use Rattle.plan_rows.proofs.RowPlaces.{bytes_length, bytes_at, byte_count, byte_first, byte_link_end, byte_end, byte_link, byte_data}

-- the other way round, where each edge of P is one of Q
turned : {Q P : Plan} → FewerRows Q P → ((i : ℕ) → i < P.edges → (j : ℕ) × (j < Q.edges) × SameEdge Q j P i) → FewerRows P Q
turned f among = record {
  points_are = sym f.points_are;
  propositions_are = sym f.propositions_are;
  links_are = sym f.links_are;
  observer_is = λ j h. sym (f.observer_is j (rw f.propositions_are h));
  activation_is = λ i h. sym (f.activation_is i (rw f.links_are h));
  finish_is = λ i h. sym (f.finish_is i (rw f.links_are h));
  least_is = λ i h. sym (f.least_is i (rw f.links_are h));
  most_is = λ i h. sym (f.most_is i (rw f.links_are h));
  edge_among = λ i h. let a = among i h in let s = a.2 in (a.0, a.1, record { from_is = sym s.from_is; to_is = sym s.to_is; up_is = sym s.up_is; down_is = sym s.down_is; label_is = sym s.label_is });
  horizon_is = sym f.horizon_is;
}

module _ (bs rows : List ℕ) where
  abbrev new : List ℕ
  new = rows_bytes bs rows

  pub rows_length : length (rows_bytes bs rows) ≡ length_for (with_rows (plan_of bs) rows)
  unfolding rows_bytes
  rows_length = bytes_length bs rows _

  pub rows_byte : (i : ℕ) → i < length_for (with_rows (plan_of bs) rows) → byte_at (rows_bytes bs rows) i ≡ row_byte bs rows i
  unfolding byte_at rows_bytes
  rows_byte i h = bytes_at bs rows _ i h

  -- ---- the sizes, and where rows stand
  byte_in : (i : ℕ) → i < 4 + byte_at bs 1 + 6 * (byte_at bs 2 + length rows) → byte_at new i ≡ row_byte bs rows i
  unfolding plan_of length_for
  byte_in i h = rows_byte i h

  first_is : (i : ℕ) → (i ≡ 3 → ⊥) → i < labels_at bs → byte_at new i ≡ byte_at bs i
  first_is i n h = byte_in i (omega arith) ∙ byte_first bs rows i n h

  size_is : (i : ℕ) → i < 3 → byte_at new i ≡ byte_at bs i
  size_is i h = first_is i (λ e. omega arith) (omega arith)

  sizes_are : (byte_at new 1 ≡ byte_at bs 1) × (byte_at new 2 ≡ byte_at bs 2) × (byte_at new 3 ≡ length rows)
  sizes_are = (size_is 1 (omega arith), size_is 2 (omega arith), byte_in 3 (omega arith) ∙ byte_count bs rows 3 refl)

  long_new : length new ≡ length_for (plan_of new)
  unfolding plan_of length_for
  long_new = let s = sizes_are in rw (s.0, s.1, s.2) rows_length

  -- it has no labels of points
  no_labels : label_bytes new ≡ 0
  no_labels = labels_absent new long_new

  -- ---- the bytes of a proposition, a link and an edge
  observer_byte : (j : ℕ) → j < byte_at new 1 → byte_at new (4 + j) ≡ byte_at bs (4 + j)
  observer_byte j h = let s = sizes_are in first_is (4 + j) (λ e. omega arith) (omega arith)

  link_end : (i t : ℕ) → i < byte_at new 2 → t < 2 → byte_at new (ends_at new i + t) ≡ byte_at bs (ends_at bs i + t)
  unfolding ends_at
  link_end i t h l =
      let s = sizes_are in
      let e = no_labels in
      byte_in (ends_at new i + t) (omega arith) ∙ byte_link_end bs rows (ends_at new i + t) (omega arith) (omega arith) ∙ ap (byte_at bs) (omega arith)

  link_datum : (i t : ℕ) → i < byte_at new 2 → t < 4 → byte_at new (data_at new i + t) ≡ byte_at bs (data_at bs i + t)
  unfolding ends_at data_at row_of_edge
  link_datum i t h l =
      let s = sizes_are in
      let e = no_labels in
      byte_in (data_at new i + t) (omega arith) ∙ byte_link bs rows (data_at new i + t) (4 * i + t) (omega arith) (omega arith) ∙ ap (byte_at bs) (omega arith)

  edge_end : (i t : ℕ) → i < length rows → t < 2 → byte_at new (ends_at new (row_of_edge new i) + t) ≡ byte_at bs (ends_at bs (row_of_edge bs (get_or rows i 0)) + t)
  unfolding ends_at row_of_edge
  edge_end i t h l =
      let s = sizes_are in
      let e = no_labels in
      byte_in (ends_at new (row_of_edge new i) + t) (omega arith) ∙ byte_end bs rows (ends_at new (row_of_edge new i) + t) i t h l (omega arith)

  edge_datum : (i t : ℕ) → i < length rows → t < 4 → byte_at new (data_at new (row_of_edge new i) + t) ≡ byte_at bs (data_at bs (row_of_edge bs (get_or rows i 0)) + t)
  unfolding ends_at data_at row_of_edge
  edge_datum i t h l =
      let s = sizes_are in
      let e = no_labels in
      byte_in (data_at new (row_of_edge new i) + t) (omega arith) ∙ byte_data bs rows (data_at new (row_of_edge new i) + t) i t l (omega arith)

  word_is : (x y t : ℕ) → t < 3 → ((j : ℕ) → j < 4 → byte_at new (x + j) ≡ byte_at bs (y + j)) → word_at new (x + t) ≡ word_at bs (y + t)
  unfolding word_at
  word_is x y t h same = ap₂ (λ (a b : ℕ). a * 256 + b) (same t (omega arith)) (simp add_assoc (same (t + 1) (omega arith)))

  weight_is : (i : ℕ) → i < length rows → word_at new (data_at new (row_of_edge new i)) ≡ word_at bs (data_at bs (row_of_edge bs (get_or rows i 0)))
  weight_is i h = simp add-zero at (word_is (data_at new (row_of_edge new i)) (data_at bs (row_of_edge bs (get_or rows i 0))) 0 (omega arith) (λ j. edge_datum i j h))

  spare_is : (i : ℕ) → i < length rows → spare_at new i ≡ spare_at bs (get_or rows i 0)
  unfolding spare_at
  spare_is i h = edge_datum i 3 h (omega arith)

  -- ---- the plan
  row_is : (i : ℕ) → i < length rows → SameEdge (plan_with new (plan_of bs).horizon) i (with_rows (plan_of bs) rows) i
  unfolding plan_of down_at
  row_is i h = record {
    from_is = simp add-zero at (edge_end i 0 h (omega arith));
    to_is = edge_end i 1 h (omega arith);
    up_is = ap up_of (weight_is i h);
    down_is = ap down_of (weight_is i h);
    label_is = edge_datum i 2 h (omega arith);
  }

  pub rows_fewer : FewerRows (plan_with (rows_bytes bs rows) (plan_of bs).horizon) (with_rows (plan_of bs) rows)
  unfolding plan_of most_at
  rows_fewer = record {
    points_are = size_is 0 (omega arith);
    propositions_are = sizes_are.0;
    links_are = sizes_are.1;
    observer_is = observer_byte;
    activation_is = λ i h. simp add-zero at (link_end i 0 h (omega arith));
    finish_is = λ i h. link_end i 1 h (omega arith);
    least_is = λ i h. simp add-zero at (word_is (data_at new i) (data_at bs i) 0 (omega arith) (λ j. link_datum i j h));
    most_is = λ i h. word_is (data_at new i) (data_at bs i) 2 (omega arith) (λ j. link_datum i j h);
    edge_among = λ i h. let l = rw sizes_are.2 at h in (i, l, row_is i l);
    horizon_is = refl;
  }

  edges_are : (plan_of new).edges ≡ length rows
  unfolding plan_of
  edges_are = sizes_are.2

  pub fewer_rows : FewerRows (with_rows (plan_of bs) rows) (plan_with (rows_bytes bs rows) (plan_of bs).horizon)
  fewer_rows = turned rows_fewer (λ i h. (i, rw edges_are h, row_is i h))

  -- ---- it is accepted
  module _ (accepted : Accepted bs) (within : RowsIn (plan_of bs) rows) where
    pub rows_accepted : Accepted (rows_bytes bs rows)
    unfolding refusal
    rows_accepted = judged_none new (plan_of new) (fewer_judged (plan_of new) (plan_of bs).horizon (fewer_trans rows_fewer (some_of_all (plan_of bs) rows within)) new bs (judged bs (plan_of bs) accepted) few fits spare (λ x. label_none new x (rw no_labels (omega arith))))
      where
        few : (plan_of new).edges ≤ 128
        few = rw edges_are (le_trans within.few (accepted_bounded bs accepted).edges_in)

        fits : Is (length_fits new (plan_of new))
        fits = own_length new (plan_of new) long_new

        spare : (i : ℕ) → i < (plan_of new).edges → spare_at new i ≡ 0
        spare i h = let l = rw edges_are at h in spare_is i l ∙ accepted_spare bs accepted (get_or rows i 0) (within.row_in i l)

    -- ---- its own horizon
    largest_less : (plan_of new).largest ≤ (plan_of bs).largest
    largest_less =
        let f = rows_fewer in
        let w = accepted_well_formed bs accepted in
        largest_under new (plan_of bs).largest (λ i h. rw (f.most_is i h) (w.most_le i (rw f.links_are at h))) (λ i h. let l = rw edges_are at h in rw (row_is i l).down_is (w.down_le (get_or rows i 0) (within.row_in i l)))

    pub rows_horizon : (plan_of (rows_bytes bs rows)).horizon ≤ (plan_of bs).horizon
    rows_horizon = rw (horizon_is new, horizon_is bs, rows_fewer.points_are) (mul-le-mul_left (plan_of bs).points largest_less)
