-- Links make no circle: rule 3 would raise the waits round it for ever. So what holds of a point that is no end, and of an end where it holds of the
-- link's activation, holds of all points.
use mathlib.Core.Path.{◌≡◌, subst}
use mathlib.Core.Logic.{inl, inr}
use mathlib.Core.List.{List}
use Prim.Native.Nat.{ℕ, zero, suc, ◌+◌, ◌≤◌, ◌<◌}
use native.Mathlib.Omega.{arith}
use lib.ListN.{get_or}
use Rattle.plan.specs.Plan.{Plan, cells}
use Rattle.plan.proofs.Ranges.{WellFormed, greatest_ge}
use Rattle.rules.specs.declared.Line.{Line}
use Rattle.rules.specs.Lines.{cell_of}
use Rattle.rules.proofs.Deriving.{no_wait}
use Rattle.rules.proofs.Cells.{cell_lt}
use Rattle.rules_panel.specs.Strategies.{NoEnd}
use Rattle.rules_panel.proofs.Moments.{Ends, ends?}
use Rattle.rules_follow.specs.Following.{longest_wait}
use Rattle.rules_follow.proofs.TableLines.{Held, Closed, HasLine, start, shorter, upper_case}

-- no line of a table waits longer than its largest cell
line_le : (P : Plan) (T : List ℕ) (l : Line) → Held P T l → l.wait ≤ longest_wait P T
line_le P T l (inl s) = omega (arith, no_wait s)
line_le P T l (inr h) = omega (arith, h.holds, greatest_ge (λ c. get_or T c 0) (cells P) (cell_of P l) (cell_lt P l h.inside))

pub has_le : {P : Plan} {T : List ℕ} {x w : ℕ} {Q : ℕ → Type 0} {D : ℕ → ℕ → Type 0} → HasLine P T x w Q D → w ≤ longest_wait P T
has_le {P} {T} a = omega (arith, a.waits, line_le P T a.line a.held)

-- any set, and a plain label
abbrev Any : ℕ → Type 0
Any i = Unit {0}

abbrev Plain : ℕ → ℕ → Type 0
Plain j d = d ≡ 3 → ⊥

module _ (P : Plan) (wf : WellFormed P) (T : List ℕ) (closed : Closed P T) where
  -- x waits m longer than y, with any set and a plain label
  abbrev LaterBy : ℕ → ℕ → ℕ → Type 0
  LaterBy m x y = (w : ℕ) → HasLine P T y w Any Plain → HasLine P T x (w + m) Any Plain

  -- than the activation of a link that ends at y, longer still
  link_later : (m x y i : ℕ) → i < P.links → P.finish i ≡ y → LaterBy m x y → LaterBy (suc m) x (P.activation i)
  link_later m x y i h e later w a =
      let b : HasLine P T y (w + P.most i) Any Plain = subst (λ (z : ℕ). HasLine P T z (w + P.most i) Any Plain) e (upper_case P wf T closed i h a (λ j d q. q) tt (λ k q. q)) in
      shorter (later (w + P.most i) b) (omega (arith, wf.durations i h))

  -- backwards along links
  along : (Q : ℕ → Type 0) → ((x : ℕ) → x < P.points → ((i : ℕ) → i < P.links → P.finish i ≡ x → Q (P.activation i)) → Q x) → (x : ℕ) → x < P.points → Q x
  along Q step x h = go (suc (longest_wait P T)) 0 (omega arith) x h (λ w a. shorter a (omega arith))
    where
      -- m links back from x
      go : (n m : ℕ) → n + m ≡ suc (longest_wait P T) → (y : ℕ) → y < P.points → LaterBy m x y → Q y
      go zero m e y k later = absurd (omega (arith, e, has_le (later 0 (start y k (λ j hj z. omega arith) (omega arith)))))
      go (suc n) m e y k later = step y k (λ i hi f. go n (suc m) (omega arith) (P.activation i) (wf.activation_in i hi) (link_later m x y i hi f later))

  pub at_all : (Q : ℕ → Type 0) → ((x : ℕ) → x < P.points → NoEnd P x → Q x) → ((i : ℕ) → i < P.links → Q (P.activation i) → Q (P.finish i)) → (x : ℕ) → x < P.points → Q x
  at_all Q no_end end = along Q step
    where
      step : (x : ℕ) → x < P.points → ((i : ℕ) → i < P.links → P.finish i ≡ x → Q (P.activation i)) → Q x
      step x h before = go (ends? P x)
        where
          go : Ends P x → Q x
          go (inr n) = no_end x h n
          go (inl s) = subst Q s.is (end s.number s.under (before s.number s.under s.is))
