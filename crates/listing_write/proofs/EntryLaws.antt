-- Laws of one line: its ground, and that it is written after the lines before it.
use mathlib.Core.Path.{◌≡◌, refl, sym, ap, subst, ◌∙◌}
use mathlib.Core.List.{List, [], ◌∷◌}
use Prim.Native.Nat.{ℕ, ◌<◌}
use native.Mathlib.Omega.{arith}
use lib.ListN.{get_or}
use Rattle.std.specs.Prelude.{Option, Some, None}
use Rattle.plan.specs.Plan.{Plan, cells}
use Rattle.plan.specs.Layout.{plan_of}
use Rattle.plan.proofs.Ranges.{accepted_well_formed}
use Rattle.rules.specs.declared.Ground.{Ground}
use Rattle.rules.specs.declared.Line.{Line}
use Rattle.rules.specs.Lines.{line_at}
use Rattle.rules.specs.Derivations.{InPlan}
use Rattle.rules.proofs.Cells.{at_range}
use Rattle.rules_ground.specs.Grounds.{Grounds, Tells}
use Rattle.rules_ground.proofs.RaisedCells.{raised_grounded}
use Rattle.listing_write.specs.Entry.{LinePut}
use Rattle.listing_write.specs.Progress.{Appended}
use Rattle.listing_write.proofs.Appending.{append_one}
use Rattle.listing_write.specs.Entries.{FoundIn, PutFound, PutBy, RoundToList}

-- ---- what was found
module _ (P : Plan) where
  pub found_at : (f : Option Ground) (g : Ground) → f ≡ Some g → FoundIn P f → InPlan P g.by × (g.first < cells P) × (g.second < cells P)
  found_at f g e h = rw e at h

  pub put_by : (m i : ℕ) (l : Line) (I : List ℕ) (f : Option Ground) (g : Ground) (a b : ℕ) (out out' : List ℕ) → f ≡ Some g → a ≡ get_or I g.first 0 → b ≡ get_or I g.second 0 → LinePut P m i l (record { by = g.by; first = a; second = b }) out out' → PutBy P m i l I f out out'
  put_by m i l I f g a b out out' e ea eb p = record { put = rw (e, ← ea, ← eb) p }

  pub put_none : (m i : ℕ) (l : Line) (I : List ℕ) (f : Option Ground) (out : List ℕ) → f ≡ None → PutBy P m i l I f out out
  put_none m i l I f out e = record { put = rw e refl }

  pub found_in : (T : List ℕ) (k : Line) (f : Option Ground) → Tells P T k f → FoundIn P f
  found_in T k (Some g) t = (t.row, t.first_in, t.second_in)
  found_in T k None t = tt

-- ---- a raised cell's line
module _ (plan marks : List ℕ) (horizon : ℕ) (first second index out : List ℕ) (m i c : ℕ) (d : RoundToList plan marks horizon first second index out m i) (room : i < m) (inside : c < cells (plan_of plan)) (raised : get_or first c 0 < get_or second c 0) where
  line_written : (f : Option Ground) (out' : List ℕ) → Tells (plan_of plan) first (line_at (plan_of plan) second c) f → PutFound (plan_of plan) m i (line_at (plan_of plan) second c) index f out out' → Appended (plan_of plan) i (line_at (plan_of plan) second c ∷ []) out out'
  line_written (Some g) out' t p =
      let P = plan_of plan in
      let wf = accepted_well_formed plan d.exact.accepted in
      append_one P (omega (arith, wf.two)) first index out out' m i (line_at P second c) g d.numbers t room p (at_range P second c inside)
  line_written None out' t p =
      let P = plan_of plan in
      let g = raised_grounded P (accepted_well_formed plan d.exact.accepted) first d.exact.first_length c inside (λ e. let z : get_or second c 0 ≡ get_or first c 0 = ap (λ (x : List ℕ). get_or x c 0) d.is_next ∙ e in absurd (omega arith)) in
      absurd (t g.ground (subst (λ (U : List ℕ). Grounds P first (line_at P U c) g.ground) (sym d.is_next) g.grounds))

  pub raised_listed : (l : Line) (f : Option Ground) (out' : List ℕ) → l ≡ line_at (plan_of plan) second c → Tells (plan_of plan) first l f → PutBy (plan_of plan) m i l index f out out' → Appended (plan_of plan) i (line_at (plan_of plan) second c ∷ []) out out'
  raised_listed l f out' e t p = line_written f out' (rw e at t) (rw e at p.put)
