-- Labels of points that are all 0.
use mathlib.Core.Path.{◌≡◌, sym, subst}
use mathlib.Core.Bool.{true}
use Prim.Native.Nat.{ℕ, ◌<◌}
use lib.Dec.{T as Is, eqb, eqb→eq}
use lib.Ieee.Fits.{eq→eqb}
use Rattle.plan.specs.Plan.{Plan}
use Rattle.plan.proofs.Truth.{is_true}
use Rattle.plan.proofs.Ranges.{every_at, every_of}
use Rattle.conversion.specs.Conversion.{unlabelled}

module _ (P : Plan) where
  pub unlabelled_of : ((x : ℕ) → P.point_label x ≡ 0) → unlabelled P ≡ true
  unfolding unlabelled
  unlabelled_of none = is_true _ (every_of (λ x. eqb (P.point_label x) 0) P.points (λ x h. eq→eqb (none x)))

  pub unlabelled_at : unlabelled P ≡ true → (x : ℕ) → x < P.points → P.point_label x ≡ 0
  unfolding unlabelled
  unlabelled_at e x h = eqb→eq _ _ (every_at (λ x. eqb (P.point_label x) 0) P.points x (subst Is (sym e) tt) h)
