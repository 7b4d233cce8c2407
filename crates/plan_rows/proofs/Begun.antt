-- A lent list whose start is written over, one element after another.
use mathlib.Core.Path.{◌≡◌, refl, sym, ap, ◌∙◌}
use mathlib.Core.List.{List, [], ◌∷◌, ◌++◌}
use Prim.Native.Nat.{ℕ, suc, ◌+◌, ◌<◌}
use native.Mathlib.Numerals.{add-one}
use native.Mathlib.Omega.{arith}
use lib.ListN.{length, get_or, drop, set, length-append, length-set}
use lib.Seq.{drop-cons, set_at, append_snoc}

-- the n elements of xs stand before what is left of `out`
pub record Begun (xs : List ℕ) (n : ℕ) (out now : List ℕ) : Type 0 where
  pub count_is : n ≡ length xs
  pub now_is : now ≡ xs ++ drop n out
  pub length_is : length now ≡ length out

pub begun_none : (out : List ℕ) → Begun [] 0 out out
begun_none out = record { count_is = refl; now_is = refl; length_is = refl }

pub begun_more : {xs : List ℕ} {n : ℕ} {out now : List ℕ} (v : ℕ) → n < length out → Begun xs n out now → Begun (xs ++ (v ∷ [])) (n + 1) out (set now n v)
begun_more {xs} {n} {out} {now} v h b = record {
  count_is = rw length-append (omega (arith, b.count_is));
  now_is = ap (λ (l : List ℕ). set l n v) (b.now_is ∙ ap (λ (l : List ℕ). xs ++ l) (drop-cons out n 0 h)) ∙ set_at xs (get_or out n 0) (drop (suc n) out) v n (sym b.count_is) ∙ rw add-one (sym (append_snoc xs v (drop (suc n) out)));
  length_is = length-set now n v ∙ b.length_is;
}
