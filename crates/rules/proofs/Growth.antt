-- A round adds M to the longest wait at most.
use mathlib.Core.Path.{◌≡◌, ap}
use mathlib.Core.Logic.{◌⊎◌, inl, inr}
use mathlib.Core.List.{List}
use Prim.Native.Nat.{ℕ, ◌+◌, ◌≤◌, ◌<◌}
use native.Mathlib.Omega.{arith}
use lib.ListN.{length, get_or}
use Rattle.plan.specs.Plan.{Plan, cells}
use Rattle.plan.proofs.Ranges.{WellFormed}
use Rattle.rules.specs.declared.Line.{Line}
use Rattle.rules.specs.declared.Rule.{Rule}
use Rattle.rules.specs.declared.Rule.TheVariants.{Propagation, LowerCase, UpperCase, LetterRemoval, OwnLiteral, LiteralRemoval}
use Rattle.rules.specs.Lines.{cell_of}
use Rattle.rules.specs.Rules.{result}
use Rattle.rules.specs.Tables.{next}
use Rattle.rules.specs.Derivations.{InPlan, Parent}
use Rattle.rules.proofs.Deriving.{no_wait}
use Rattle.rules.proofs.InRange.{edge_range}
use Rattle.rules.proofs.Cells.{cell_lt}
use Rattle.rules.proofs.Next.{Cell, FromTable, next_is}

module _ (P : Plan) (wf : WellFormed P) where
  -- a rule adds M to its first parent's wait at most
  pub result_more : (r : Rule) → InPlan P r → (l m : Line) → (result P r l m).wait ≤ l.wait + P.largest
  result_more (Propagation e) h l m = omega (arith, (edge_range P wf e h).down_le)
  result_more (LowerCase i) h l m = omega arith
  result_more (UpperCase i) h l m = omega (arith, wf.most_le i h)
  result_more (LetterRemoval i) h l m = omega arith
  result_more (OwnLiteral j) h l m = omega arith
  result_more (LiteralRemoval j) h l m = omega arith

  pub next_more : (A : List ℕ) → length A ≡ cells P → (b : ℕ) → ((c : ℕ) → c < cells P → get_or A c 0 ≤ b) → (c : ℕ) → c < cells P → get_or (next P A) c 0 ≤ b + P.largest
  next_more A len b h c k = go ((next_is P wf A len).reason c k)
    where
      parent : (l : Line) → Parent P (Cell P A) l → l.wait ≤ b
      parent l (inl s) = omega (arith, no_wait s)
      parent l (inr d) = omega (arith, h (cell_of P l) (cell_lt P l d.inside), d.holds)

      go : (get_or (next P A) c 0 ≡ get_or A c 0) ⊎ FromTable P A c (get_or (next P A) c 0) → get_or (next P A) c 0 ≤ b + P.largest
      go (inl e) = omega (arith, h c k, e)
      go (inr r) = let g = r.given_from in omega (arith, parent g.first g.first_is, result_more g.rule g.row g.first g.second, ap (λ (z : Line). z.wait) g.gave, r.wait_is)
