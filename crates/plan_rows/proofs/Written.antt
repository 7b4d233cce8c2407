-- A list into which parts of a plan's bytes are copied, one after another: the bytes of the plan with some of its rows.
use mathlib.Core.Path.{◌≡◌, sym, ap, ap₂, ◌∙◌}
use mathlib.Core.List.{List, ◌++◌}
use Prim.Native.Nat.{ℕ, ◌+◌, ◌-◌, ◌≤◌, ◌<◌}
use native.Mathlib.Decide.{dec_lt}
use native.Mathlib.Numerals.{add-one}
use native.Mathlib.Omega.{arith}
use lib.ListN.{length, get_or, take, drop, set, length-append, length-drop, get_or-append}
use lib.Seq.{take_at, drop-drop, length-take-le, get_or-take, get_or-drop, get_or-append-add, ext_get_or}
use borrow.Rule.Slice.PartMut.{put_mid}
use Rattle.std.proofs.lemmas.List.{append_assoc}
use Rattle.std.proofs.lemmas.Slice.{drop-append-drop}
use Rattle.plan.specs.Bytes.{byte_at}
use Rattle.plan.specs.Layout.{plan_of, length_for}
use Rattle.plan_rows.specs.Rows.{with_rows}
use Rattle.plan_rows.specs.RowBytes.{row_byte, row_bytes_to, rows_bytes}
use Rattle.plan_rows.proofs.Begun.{Begun, begun_none, begun_more}
use Rattle.plan_rows.proofs.RowPlaces.{bytes_length, bytes_at}

module _ (bs rows : List ℕ) where
  pub written_none : (out : List ℕ) → Begun (row_bytes_to bs rows 0) 0 out out
  unfolding row_bytes_to
  written_none out = begun_none out

  -- a part of the plan's bytes has the next ones
  next_bytes : (n m from : ℕ) → from + m ≤ length bs → ((j : ℕ) → j < m → byte_at bs (from + j) ≡ row_byte bs rows (n + j)) → row_bytes_to bs rows n ++ take m (drop from bs) ≡ row_bytes_to bs rows (n + m)
  unfolding byte_at
  next_bytes n m from h same = ext_get_or 0 _ _ (rw (length-append, bytes_length bs rows n, part_length, bytes_length bs rows (n + m))) at_each
    where
      part_length : length (take m (drop from bs)) ≡ m
      part_length = length-take-le m (drop from bs) (rw length-drop (omega arith))

      at_each : (k : ℕ) → k < length (row_bytes_to bs rows n ++ take m (drop from bs)) → get_or (row_bytes_to bs rows n ++ take m (drop from bs)) k 0 ≡ get_or (row_bytes_to bs rows (n + m)) k 0
      at_each k h = go (dec_lt k n)
        where
          few : k < n + m
          few = rw (length-append, bytes_length bs rows n, part_length) at h

          go : Dec (k < n) → get_or (row_bytes_to bs rows n ++ take m (drop from bs)) k 0 ≡ get_or (row_bytes_to bs rows (n + m)) k 0
          go (yes l) = get_or-append (row_bytes_to bs rows n) _ 0 k (rw (bytes_length bs rows n) l) ∙ bytes_at bs rows n k l ∙ sym (bytes_at bs rows (n + m) k few)
          go (no l) =
              let j = k - n in
              let e : k ≡ n + j = omega arith in
              ap (λ i. get_or (row_bytes_to bs rows n ++ take m (drop from bs)) i 0) e
              ∙ rw (bytes_length bs rows n) at (get_or-append-add (row_bytes_to bs rows n) (take m (drop from bs)) j 0)
              ∙ get_or-take m (drop from bs) j 0 (omega (arith, few)) ∙ get_or-drop from bs j 0 ∙ same j (omega (arith, few)) ∙ ap (row_byte bs rows) (sym e) ∙ sym (bytes_at bs rows (n + m) k few)

  module _ {n : ℕ} {out now : List ℕ} (b : Begun (row_bytes_to bs rows n) n out now) where
    pub written_byte : {v : ℕ} → n < length out → v ≡ row_byte bs rows n → Begun (row_bytes_to bs rows (n + 1)) (n + 1) out (set now n v)
    unfolding row_bytes_to
    written_byte {v} h e = rw (add-one, ← e) (rw add-one at (begun_more v h b))

    pub written_part : {next : List ℕ} {at to : ℕ} (m from : ℕ) → next ≡ put_mid at m now (take m (drop from bs)) → at ≡ n → to ≡ n + m → from + m ≤ length bs → n + m ≤ length out → ((j : ℕ) → j < m → byte_at bs (from + j) ≡ row_byte bs rows (n + j)) → Begun (row_bytes_to bs rows to) to out next
    written_part m from put a e h k same = rw (put, a, e) (record {
      count_is = sym (bytes_length bs rows (n + m));
      now_is = is;
      length_is = ap length is ∙ rw (length-append, bytes_length bs rows (n + m), length-drop) (omega arith);
    })
      where
        first : take n now ≡ row_bytes_to bs rows n
        first = ap (take n) b.now_is ∙ take_at (row_bytes_to bs rows n) (drop n out) n (bytes_length bs rows n)

        last : drop m (drop n now) ≡ drop (n + m) out
        last = drop-drop m n now ∙ ap (drop (n + m)) b.now_is ∙ drop-append-drop n out (row_bytes_to bs rows n) (n + m) (omega arith) (bytes_length bs rows n)

        is : put_mid n m now (take m (drop from bs)) ≡ row_bytes_to bs rows (n + m) ++ drop (n + m) out
        is = ap₂ (λ (x y : List ℕ). x ++ (take m (drop from bs) ++ y)) first last ∙ sym (append_assoc (row_bytes_to bs rows n) (take m (drop from bs)) (drop (n + m) out)) ∙ ap (λ (x : List ℕ). x ++ drop (n + m) out) (next_bytes n m from h same)

    pub written_all : {end : ℕ} → end ≡ length_for (with_rows (plan_of bs) rows) → n ≡ end → Begun (rows_bytes bs rows) end out now
    unfolding rows_bytes
    written_all e f = rw (← e, ← f) b
