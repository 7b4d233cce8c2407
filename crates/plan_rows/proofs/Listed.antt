-- A loop over marks that lists the rows with mark 1.
use mathlib.Core.Path.{◌≡◌}
use mathlib.Core.List.{List}
use Prim.Native.Nat.{ℕ, ◌+◌, ◌≤◌, ◌<◌}
use native.Mathlib.Omega.{arith}
use lib.ListN.{length, get_or, take, set}
use Rattle.plan_rows.specs.Rows.{marked_from, marked}
use Rattle.plan_rows.proofs.Marked.{marked_more, marked_same}
use Rattle.plan_rows.proofs.Begun.{Begun, begun_none, begun_more}

-- the rows with mark 1 among the first i are listed
pub record Listed (ms : List ℕ) (i : ℕ) (out : List ℕ) (count : ℕ) (now : List ℕ) : Type 0 where
  pub few : count ≤ i
  pub begun : Begun (marked (take i ms)) count out now

pub listed_none : (ms out : List ℕ) → Listed ms 0 out 0 out
unfolding marked_from
listed_none ms out = record { few = omega arith; begun = begun_none out }

module _ {ms : List ℕ} {i : ℕ} {out : List ℕ} {count : ℕ} {now : List ℕ} (l : Listed ms i out count now) (h : i < length ms) where
  pub listed_more : {more : ℕ} {next : List ℕ} → i < length out → get_or ms i 0 ≡ 1 → next ≡ set now count i → more ≡ count + 1 → Listed ms (i + 1) out more next
  listed_more k one e f = rw (e, f) (record { few = omega arith; begun = rw (marked_more ms i h one) (begun_more i (omega arith) l.begun) })

  pub listed_same : {more : ℕ} {next : List ℕ} → (get_or ms i 0 ≡ 1 → ⊥) → next ≡ now → more ≡ count → Listed ms (i + 1) out more next
  listed_same other e f = rw (e, f) (record { few = omega arith; begun = rw (marked_same ms i h other) l.begun })
