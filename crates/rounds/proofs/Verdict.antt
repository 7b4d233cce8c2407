-- What holds of the table of each round that does not stop, and what the round that stops says of all derivations.
use mathlib.Core.Path.{◌≡◌, refl, sym, ap, ◌∙◌}
use mathlib.Core.Bool.{true, false}
use mathlib.Core.Logic.{◌⊎◌, inl, inr}
use mathlib.Core.List.{List}
use Prim.Native.Nat.{ℕ, zero, suc, ◌+◌, ◌^◌, ◌≤◌, ◌<◌}
use native.Mathlib.Nat.{le_trans, mul_comm, div-div-eq-div-mul, div-eq_of_lt}
use native.Mathlib.Decide.{dec_le}
use native.Mathlib.Omega.{arith}
use lib.Dec.{T as Is}
use lib.ListN.{length, get_or, take, length-replicate, get_or-replicate, length-take}
use lib.Seq.{get_or-take}
use Rattle.plan.specs.Label.{plain}
use Rattle.plan.specs.Plan.{Plan, width, cells}
use Rattle.plan.proofs.Ranges.{WellFormed}
use Rattle.rules.specs.declared.Line.{Line}
use Rattle.rules.specs.Lines.{cell_of, line_at}
use Rattle.rules.specs.Tables.{next}
use Rattle.rules.specs.Derivations.{Given, Reaches, SelfWait}
use Rattle.rules.proofs.Deriving.{Reached}
use Rattle.rules.proofs.Cells.{cell_lt, cell_at, at_range}
use Rattle.rules.proofs.Next.{Cell, IsNext, next_is}
use Rattle.rules.proofs.FirstAlarm.{Quiet, first_cell, quiet_no_line, width_le}
use Rattle.rules.proofs.Sound.{next_cases, Sound, sound_next, complete}
use Rattle.rounds_tables.proofs.Comparing.{none_above, some_above}
use Rattle.rounds_making.specs.Rounds.{table_from, zeros, first_alarm_waits}
use Rattle.rounds_making.proofs.Stopping.{Running, running_less, tests_fail}
use Rattle.rounds.specs.Meaning.{HoldsLongest}
use Rattle.rounds.proofs.Bound.{Low, given_plain, low_next, high_next}

module _ (P : Plan) (wf : WellFormed P) where
  -- what holds of a table before each round
  pub record Inv (A : List ℕ) : Type 0 where
    pub sized : length A ≡ cells P
    pub sound : Sound P A
    pub quiet : Quiet P A
    pub low : Low P A
    pub high : (c : ℕ) → c < cells P → get_or A c 0 ≤ P.horizon + P.largest

  pub cell_line : (A : List ℕ) (c : ℕ) → c < cells P → 0 < get_or A c 0 → Cell P A (line_at P A c)
  cell_line A c h k = record { inside = at_range P A c h; above = k; holds = ap (λ (x : ℕ). get_or A x 0) (cell_at P A c) }

  pub first_point_lem : (A : List ℕ) (c : ℕ) → c < width P → (line_at P A c).point ≡ 0
  first_point_lem A c h = div-div-eq-div-mul c (4 ^ P.propositions) (2 ^ P.links) ∙ div-eq_of_lt (rw (mul_comm (4 ^ P.propositions) (2 ^ P.links)) h)

  pub quiet_now : (B : List ℕ) → first_alarm_waits P B ≡ false → Quiet P B
  quiet_now B e c h = sym (get_or-take (width P) B c 0 h) ∙ none_above (take (width P) B) e c

  -- ---- the table of each round that does not stop
  pub inv_next : (A B : List ℕ) → Inv A → IsNext P A B → Quiet P B → Inv B
  inv_next A B v n q = record { sized = n.as_long ∙ v.sized; sound = sound_next P wf A B n v.sound; quiet = q; low = low_next P wf A v.quiet B n q v.low; high = λ c h. go c h (dec_le 1 (get_or B c 0)) }
    where
      go : (c : ℕ) → c < cells P → Dec (1 ≤ get_or B c 0) → get_or B c 0 ≤ P.horizon + P.largest
      go c h (yes k) = high_next P wf A v.quiet B n q v.low (line_at P B c) (cell_line B c h k)
      go c h (no k) = omega arith

  zero_at : (c : ℕ) → c < cells P → get_or (zeros P) c 0 ≡ 0
  zero_at c h = get_or-replicate (cells P) c 0 0 h

  no_line : (l : Line) → Cell P (zeros P) l → ⊥
  no_line l c = omega (arith, zero_at (cell_of P l) (cell_lt P l c.inside), c.holds, c.above)

  inv_zeros : Inv (zeros P)
  inv_zeros = record { sized = length-replicate (cells P) 0; sound = λ l c. absurd (no_line l c); quiet = λ c h. zero_at c (le_trans h (width_le P wf)); low = λ l c u. absurd (no_line l c); high = λ c h. omega (arith, zero_at c h) }

  pub inv_table : (r : ℕ) → Running P (zeros P) r → Inv (table_from P (zeros P) r)
  inv_table zero g = inv_zeros
  inv_table (suc r) g =
      let A = table_from P (zeros P) r in
      let v = inv_table r (running_less P (zeros P) r (suc r) (omega arith) g) in
      inv_next A (next P A) v (next_is P wf A v.sized) (quiet_now (next P A) (tests_fail P (zeros P) r (g.goes r (omega arith))).0)

  -- ---- the round that stops
  -- Z has a cell above 0
  pub self_wait : (A B : List ℕ) → Inv A → IsNext P A B → first_alarm_waits P B ≡ true → SelfWait P
  self_wait A B v n e =
      let t = some_above (take (width P) B) e in
      let c = t.0 in
      let small : c < width P = omega (arith, t.1, length-take (width P) B) in
      let in_table : c < cells P = le_trans small (width_le P wf) in
      let high : 0 < get_or B c 0 = rw (get_or-take (width P) B c 0 small) at t.2 in
      let h : Cell P B (line_at P B c) = cell_line B c in_table high in
      let r = sound_next P wf A B n v.sound (line_at P B c) h in
      record { lines = r.lines; derives = r.derives; by = record { line = line_at P B c; among = r.among; first_alarm = first_point_lem B c small; is_plain = go (line_at P B c) (first_point_lem B c small) (next_cases P wf A B n (line_at P B c) h) } }
    where
      go : (l : Line) → l.point ≡ 0 → Cell P A l ⊎ Given P (Cell P A) l → Is (plain P.propositions l.label)
      go l z (inl d) = absurd (quiet_no_line P A v.quiet l d z)
      go l z (inr g) = given_plain P wf A v.quiet l g z

  -- the table is its own next
  module _ (A : List ℕ) (v : Inv A) (n : IsNext P A A) where
    pub no_self_wait : SelfWait P → ⊥
    no_self_wait s =
        let l = s.by.line in
        let u = complete P wf A n l (record { lines = s.lines; derives = s.derives; among = s.by.among }) in
        omega (arith, u.above, u.within, v.quiet (cell_of P l) (first_cell P l u.inside s.by.first_alarm))

    pub holds_longest : (c : ℕ) → c < cells P → HoldsLongest P c (get_or A c 0)
    holds_longest c h = record { where_reached = λ w r. (at (omega (arith, bound w r, pos w r)), bound); where_not = λ never. none never (dec_le 1 (get_or A c 0)) }
      where
        line : {w : ℕ} (r : Reaches P c w) → Reached P r.by.line
        line r = record { lines = r.lines; derives = r.derives; among = r.by.among }

        bound : (w : ℕ) → Reaches P c w → w ≤ get_or A c 0
        bound w r = rw (← r.by.waits, ← r.by.belongs) (complete P wf A n r.by.line (line r)).within

        pos : (w : ℕ) → Reaches P c w → 0 < w
        pos w r = rw r.by.waits at (complete P wf A n r.by.line (line r)).above

        at : 0 < get_or A c 0 → Reaches P c (get_or A c 0)
        at k = let x = v.sound (line_at P A c) (cell_line A c h k) in record { lines = x.lines; derives = x.derives; by = record { line = line_at P A c; among = x.among; belongs = cell_at P A c; waits = refl } }

        none : ((w : ℕ) → Reaches P c w → ⊥) → Dec (1 ≤ get_or A c 0) → get_or A c 0 ≡ 0
        none never (yes k) = absurd (never (get_or A c 0) (at k))
        none never (no k) = omega arith
