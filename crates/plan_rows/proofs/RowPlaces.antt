-- The bytes of a plan with some of its rows, place by place: what stands before the links' ends, the links' ends, the rows' ends, the links' data, the rows' data.
use mathlib.Core.Path.{◌≡◌, refl, ap, ◌∙◌}
use mathlib.Core.List.{List, [], ◌∷◌}
use Prim.Native.Nat.{ℕ, zero, suc, ◌+◌, ◌-◌, ◌*◌, ◌/◌, ◌%◌, ◌≤◌, ◌<◌}
use native.Mathlib.Decide.{ℕ_discrete}
use native.Mathlib.Omega.{arith}
use lib.ListN.{length, get_or, length-append, get_or-append}
use lib.Seq.{get_or_at}
use borrow.Author.Tests.{lt-ltb, le-ltb, eq-eqb, ne_eqb}
use Rattle.plan.specs.Bytes.{byte_at}
use Rattle.plan.specs.Layout.{labels_at, label_bytes, ends_at, data_at, row_of_edge, plan_of, length_for}
use Rattle.plan.specs.Refusal.{Accepted}
use Rattle.plan.proofs.Ranges.{edge_byte, accepted_bounded}
use Rattle.plan.proofs.Forms.{accepted_length}
use Rattle.plan_rows.specs.Rows.{with_rows}
use Rattle.plan_rows.specs.RowBytes.{RowsIn, source_of, row_byte, row_bytes_to}

module _ (bs rows : List ℕ) where
  -- ---- the first n bytes
  pub bytes_length : (n : ℕ) → length (row_bytes_to bs rows n) ≡ n
  unfolding row_bytes_to
  bytes_length zero = refl
  bytes_length (suc n) = rw length-append (omega (arith, bytes_length n))

  pub bytes_at : (n i : ℕ) → i < n → get_or (row_bytes_to bs rows n) i 0 ≡ row_byte bs rows i
  unfolding row_bytes_to
  bytes_at zero i h = absurd (omega arith)
  bytes_at (suc n) i h = go (bytes_at n i) (ℕ_discrete i n)
    where
      go : (i < n → get_or (row_bytes_to bs rows n) i 0 ≡ row_byte bs rows i) → Dec (i ≡ n) → get_or (row_bytes_to bs rows (suc n)) i 0 ≡ row_byte bs rows i
      go r (yes e) = rw e (get_or_at (row_bytes_to bs rows n) (row_byte bs rows n) [] 0 n (bytes_length n))
      go r (no e) = get_or-append (row_bytes_to bs rows n) (row_byte bs rows n ∷ []) 0 i (omega (arith, bytes_length n)) ∙ r (omega arith)

  -- ---- where the rows' ends, the links' data and the rows' data begin
  abbrev pub ends : ℕ
  ends = labels_at bs + 2 * byte_at bs 2

  abbrev pub link_data : ℕ
  link_data = ends + 2 * length rows

  abbrev pub edge_data : ℕ
  edge_data = link_data + 4 * byte_at bs 2

  -- ---- what the code needs of its numbers: the rows' count and their numbers fit a byte
  pub count_few : Accepted bs × RowsIn (plan_of bs) rows → length rows < 256
  count_few a = omega (arith, a.1.few, (accepted_bounded bs a.0).edges_in)

  pub row_few : Accepted bs × RowsIn (plan_of bs) rows → (i : ℕ) → i < length rows → get_or rows i 0 < 256
  row_few a i h = edge_byte bs a.0 (get_or rows i 0) (a.1.row_in i h)

  -- ---- the plan's bytes, and those of the plan with these rows, counted
  pub counted : Accepted bs × RowsIn (plan_of bs) rows → (length bs ≡ labels_at bs + label_bytes bs + 6 * (byte_at bs 2 + byte_at bs 3)) × (length rows ≤ byte_at bs 3) × (length_for (with_rows (plan_of bs) rows) ≡ edge_data + 4 * length rows)
  unfolding plan_of length_for
  counted a = let l = accepted_length bs a.0 in (omega arith, a.1.few, omega arith)

  -- where parts of the whole plan end
  module _ (a : Accepted bs × RowsIn (plan_of bs) rows) where
    pub links_in : data_at bs 0 + 4 * byte_at bs 2 ≤ length bs
    unfolding data_at ends_at
    links_in = omega (arith, counted a)

    module _ (i : ℕ) (h : i < length rows) where
      pub end_in : ends_at bs (row_of_edge bs (get_or rows i 0)) + 2 ≤ length bs
      unfolding plan_of ends_at row_of_edge
      end_in = omega (arith, counted a, a.1.row_in i h)

      pub data_in : data_at bs (row_of_edge bs (get_or rows i 0)) + 4 ≤ length bs
      unfolding plan_of data_at ends_at row_of_edge
      data_in = omega (arith, counted a, a.1.row_in i h)

  -- ---- where byte `at` comes from
  module _ (at : ℕ) where
    pub source_first : at < labels_at bs → source_of bs rows at ≡ at
    unfolding source_of
    source_first h = rw (lt-ltb at (labels_at bs) h)

    pub source_link_end : labels_at bs ≤ at → at < ends → source_of bs rows at ≡ label_bytes bs + at
    unfolding source_of
    source_link_end h k = rw (le-ltb at (labels_at bs) h, lt-ltb at ends k)

    pub source_end : ends ≤ at → at < link_data → source_of bs rows at ≡ ends_at bs (row_of_edge bs (get_or rows ((at - ends) / 2) 0)) + (at - ends) % 2
    unfolding source_of
    source_end h k = rw (le-ltb at (labels_at bs) (omega arith), le-ltb at ends h, lt-ltb at link_data k)

    pub source_link : link_data ≤ at → at < edge_data → source_of bs rows at ≡ data_at bs 0 + (at - link_data)
    unfolding source_of
    source_link h k = rw (le-ltb at (labels_at bs) (omega arith), le-ltb at ends (omega arith), le-ltb at link_data h, lt-ltb at edge_data k)

    pub source_data : edge_data ≤ at → source_of bs rows at ≡ data_at bs (row_of_edge bs (get_or rows ((at - edge_data) / 4) 0)) + (at - edge_data) % 4
    unfolding source_of
    source_data h = rw (le-ltb at (labels_at bs) (omega arith), le-ltb at ends (omega arith), le-ltb at link_data (omega arith), le-ltb at edge_data h)

    pub byte_other : (at ≡ 3 → ⊥) → row_byte bs rows at ≡ byte_at bs (source_of bs rows at)
    unfolding row_byte
    byte_other n = rw (ne_eqb at 3 n)

    byte_past : labels_at bs ≤ at → row_byte bs rows at ≡ byte_at bs (source_of bs rows at)
    byte_past h = byte_other (λ e. omega arith)

    -- ---- byte `at`
    pub byte_count : at ≡ 3 → row_byte bs rows at ≡ length rows
    unfolding row_byte
    byte_count e = rw (eq-eqb at 3 e)

    pub byte_first : (at ≡ 3 → ⊥) → at < labels_at bs → row_byte bs rows at ≡ byte_at bs at
    byte_first n h = byte_other n ∙ ap (byte_at bs) (source_first h)

    pub byte_link_end : labels_at bs ≤ at → at < ends → row_byte bs rows at ≡ byte_at bs (label_bytes bs + at)
    byte_link_end h k = byte_past h ∙ ap (byte_at bs) (source_link_end h k)

    pub byte_end : (i t : ℕ) → i < length rows → t < 2 → at ≡ ends + (2 * i + t) → row_byte bs rows at ≡ byte_at bs (ends_at bs (row_of_edge bs (get_or rows i 0)) + t)
    byte_end i t h l e =
        let q : (at - ends) / 2 ≡ i = omega arith in
        let r : (at - ends) % 2 ≡ t = omega arith in
        rw (q, r) at (byte_past (omega arith) ∙ ap (byte_at bs) (source_end (omega arith) (omega arith)))

    pub byte_link : (j : ℕ) → j < 4 * byte_at bs 2 → at ≡ link_data + j → row_byte bs rows at ≡ byte_at bs (data_at bs 0 + j)
    byte_link j h e =
        let d : at - link_data ≡ j = omega arith in
        rw d at (byte_past (omega arith) ∙ ap (byte_at bs) (source_link (omega arith) (omega arith)))

    pub byte_data : (i t : ℕ) → t < 4 → at ≡ edge_data + (4 * i + t) → row_byte bs rows at ≡ byte_at bs (data_at bs (row_of_edge bs (get_or rows i 0)) + t)
    byte_data i t l e =
        let q : (at - edge_data) / 4 ≡ i = omega arith in
        let r : (at - edge_data) % 4 ≡ t = omega arith in
        rw (q, r) at (byte_past (omega arith) ∙ ap (byte_at bs) (source_data (omega arith)))
