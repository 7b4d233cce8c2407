-- The bytes of a plan with labels 0 in place of those that it has, and a list that is written over in three parts.
use mathlib.Core.Path.{◌≡◌, sym, ap, ap₂, ◌∙◌}
use mathlib.Core.List.{List, ◌++◌}
use Prim.Native.Nat.{ℕ, ◌+◌, ◌-◌, ◌≤◌}
use native.Mathlib.Omega.{arith}
use lib.ListN.{length, take, drop, replicate, length-append}
use lib.Seq.{take_at, drop-drop}
use borrow.Rule.Slice.PartMut.{put_mid}
use Rattle.std.proofs.lemmas.List.{append_assoc}
use Rattle.std.proofs.lemmas.Slice.{take-put_mid, drop-put_mid, drop-append-drop}
use Rattle.plan.specs.Layout.{plan_of}
use Rattle.plan.specs.Forms.{relabelled, with_labels, without_labels}

abbrev pub zeroed : List ℕ → ℕ → List ℕ
zeroed bs labels = relabelled bs (replicate labels 0)

-- the two forms
module _ (bs : List ℕ) (labels : ℕ) where
  pub zeroed_with : labels ≡ (plan_of bs).points → zeroed bs labels ≡ with_labels bs
  unfolding plan_of with_labels
  zeroed_with e = ap (zeroed bs) e

  pub zeroed_without : labels ≡ 0 → zeroed bs labels ≡ without_labels bs
  unfolding without_labels
  zeroed_without e = ap (zeroed bs) e

-- ---- xs up to s, ys from there, k long, and zs from there up to n + k stand before what is left of `out`
pub three_parts : (xs ys zs out : List ℕ) (s k n : ℕ) → length xs ≡ s → length ys ≡ k → s ≤ n → s ≤ length out → put_mid (s + k) (n + k - (s + k)) (put_mid s (s + k - s) (xs ++ drop s out) ys) zs ≡ (xs ++ (ys ++ zs)) ++ drop (n + k) out
three_parts xs ys zs out s k n ex ey h l =
    ap₂ (λ (a b : List ℕ). a ++ (zs ++ b)) first last ∙ append_assoc xs ys (zs ++ drop (n + k) out)
    ∙ sym (append_assoc xs (ys ++ zs) (drop (n + k) out) ∙ ap (λ (a : List ℕ). xs ++ a) (append_assoc ys zs (drop (n + k) out)))
  where
    long : s ≤ length (xs ++ drop s out)
    long = rw length-append (omega arith)

    first : take (s + k) (put_mid s (s + k - s) (xs ++ drop s out) ys) ≡ xs ++ ys
    first = take-put_mid s (s + k - s) (xs ++ drop s out) ys (s + k) (omega arith) long ∙ ap (λ (a : List ℕ). a ++ ys) (take_at xs (drop s out) s ex)

    last : drop (n + k - (s + k)) (drop (s + k) (put_mid s (s + k - s) (xs ++ drop s out) ys)) ≡ drop (n + k) out
    last =
        drop-drop (n + k - (s + k)) (s + k) _ ∙ ap (λ i. drop i (put_mid s (s + k - s) (xs ++ drop s out) ys)) (omega arith)
        ∙ drop-put_mid s (s + k - s) (xs ++ drop s out) ys (n + k) (omega arith) long (omega arith) ∙ drop-append-drop s out xs (n + k) (omega arith) ex
