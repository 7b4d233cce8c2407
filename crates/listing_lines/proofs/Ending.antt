-- The round in which a plan breaks: no round before it stopped, and the lowest Z cell that it raised is plain.
use mathlib.Core.Path.{◌≡◌, refl, sym, ap, ◌∙◌}
use mathlib.Core.Bool.{Bool, true, false, cond}
use mathlib.Core.Logic.{◌⊎◌, inl, inr}
use mathlib.Core.List.{List}
use mathlib.Core.Option.{Option, none, some}
use Prim.Native.Nat.{ℕ, zero, suc, ◌+◌, ◌≤◌, ◌<◌}
use native.Mathlib.Nat.{le_trans}
use native.Mathlib.Decide.{ℕ_discrete}
use native.Mathlib.Omega.{arith}
use borrow.Author.Tests.{ltb-true, ltb-false}
use lib.Dec.{T as Is}
use lib.ListN.{get_or, take, length-take}
use lib.Seq.{get_or-take}
use Rattle.plan.specs.Label.{plain}
use Rattle.plan.specs.Plan.{Plan, width}
use Rattle.plan.proofs.Ranges.{WellFormed}
use Rattle.rules.specs.declared.Line.{Line}
use Rattle.rules.specs.Lines.{line_at}
use Rattle.rules.specs.Derivations.{Given}
use Rattle.rules.proofs.Next.{Cell, next_is}
use Rattle.rules.proofs.Sound.{next_cases}
use Rattle.rules.proofs.FirstAlarm.{quiet_no_line, width_le}
use Rattle.rounds_tables.proofs.Comparing.{some_above}
use Rattle.rounds_making.specs.Rounds.{zeros, first_alarm_waits, rounds_to}
use Rattle.rounds_making.specs.Outcomes.{kept, broken, pick, ended, end_table, run_outcome, run_table}
use Rattle.rounds_making.proofs.Stopping.{Running, some_stops, ends_broken}
use Rattle.rounds.proofs.Bound.{given_plain}
use Rattle.rounds.proofs.Verdict.{Inv, cell_line, first_point_lem, inv_table}
use Rattle.listing_lines.specs.Listed.{table, is_raised, lowest_raised, last_cell, BreaksIn}

-- ---- the round
pub record Breaks (P : Plan) (r : ℕ) : Type 0 where
  pub before : ℕ
  pub is_after : r ≡ suc before
  pub runs : Running P (zeros P) before
  pub waits : first_alarm_waits P (table P (suc before)) ≡ true

module _ (P : Plan) (limit r : ℕ) where
  some_breaks : (s : ℕ) → rounds_to P (zeros P) limit ≡ some s → (b : Bool) → first_alarm_waits P (table P s) ≡ b → pick b (broken s) (kept s) ≡ broken r → Breaks P r
  some_breaks s q false w e = let z : ◌≡◌ {A = ℕ} 0 1 = cc in absurd (omega arith)
  some_breaks s q true w e =
      let t = some_stops P (zeros P) limit s q in
      let z : s ≡ r = cc in
      record { before = t.before; is_after = sym z ∙ t.is_after; runs = t.runs; waits = rw t.is_after at w }

  pub breaks_facts : run_outcome P (zeros P) limit ≡ broken r → Breaks P r
  breaks_facts e = go (rounds_to P (zeros P) limit) refl e
    where
      go : (o : Option ℕ) → rounds_to P (zeros P) limit ≡ o → ended P (zeros P) limit o ≡ broken r → Breaks P r
      go none q e = let z : ◌≡◌ {A = ℕ} 0 1 = cc in absurd (omega arith)
      go (some s) q e = some_breaks s q (first_alarm_waits P (table P s)) refl e

  -- the tables then hold that round's table
  pub breaks_table : run_outcome P (zeros P) limit ≡ broken r → run_table P (zeros P) limit ≡ table P r
  breaks_table e = go (rounds_to P (zeros P) limit) e
    where
      picked : (s : ℕ) (b : Bool) → pick b (broken s) (kept s) ≡ broken r → s ≡ r
      picked s true e = cc
      picked s false e = let z : ◌≡◌ {A = ℕ} 0 1 = cc in absurd (omega arith)

      go : (o : Option ℕ) → ended P (zeros P) limit o ≡ broken r → end_table P (zeros P) limit o ≡ table P r
      go none e = let z : ◌≡◌ {A = ℕ} 0 1 = cc in absurd (omega arith)
      go (some s) e = ap (table P) (picked s (first_alarm_waits P (table P s)) e)

  -- the limit does not matter
  pub breaks_in : run_outcome P (zeros P) limit ≡ broken r → BreaksIn P r
  breaks_in e =
      let b = breaks_facts e in
      let k : b.before < r = omega (arith, b.is_after) in
      record { breaks = (ends_broken P (zeros P) r b.before k b.runs b.waits).outcome_is ∙ ap broken (sym b.is_after) }

-- ---- its last line
lowest_found : (T U : List ℕ) (n c k : ℕ) → c ≤ k → k < c + n → get_or T k 0 < get_or U k 0 → (lowest_raised T U c n < c + n) × (get_or T (lowest_raised T U c n) 0 < get_or U (lowest_raised T U c n) 0)
unfolding lowest_raised
lowest_found T U zero c k h j u = absurd (omega arith)
lowest_found T U (suc n) c k h j u = go (λ l. lowest_found T U n (suc c) k l (omega arith) u) (is_raised T U c) refl
  where
    go : (suc c ≤ k → (lowest_raised T U (suc c) n < suc c + n) × (get_or T (lowest_raised T U (suc c) n) 0 < get_or U (lowest_raised T U (suc c) n) 0)) → (b : Bool) → is_raised T U c ≡ b → (cond b c (lowest_raised T U (suc c) n) < c + suc n) × (get_or T (cond b c (lowest_raised T U (suc c) n)) 0 < get_or U (cond b c (lowest_raised T U (suc c) n)) 0)
    go later true e = (omega arith, ltb-true (get_or T c 0) (get_or U c 0) e)
    go later false e = on (ℕ_discrete c k)
      where
        on : Dec (c ≡ k) → (lowest_raised T U (suc c) n < c + suc n) × (get_or T (lowest_raised T U (suc c) n) 0 < get_or U (lowest_raised T U (suc c) n) 0)
        on (yes q) = let z : get_or T c 0 < get_or U c 0 = rw q u in absurd (omega (arith, ltb-false (get_or T c 0) (get_or U c 0) e))
        on (no q) = let t = later (omega arith) in (omega (arith, t.0), t.1)

module _ (P : Plan) (wf : WellFormed P) (s : ℕ) (runs : Running P (zeros P) s) (waits : first_alarm_waits P (table P (suc s)) ≡ true) where
  last_found : (last_cell P s < 0 + width P) × (get_or (table P s) (last_cell P s) 0 < get_or (table P (suc s)) (last_cell P s) 0)
  last_found =
      let t = some_above (take (width P) (table P (suc s))) waits in
      let small : t.0 < width P = omega (arith, t.1, length-take (width P) (table P (suc s))) in
      let high : 0 < get_or (table P (suc s)) t.0 0 = rw (get_or-take (width P) (table P (suc s)) t.0 0 small) at t.2 in
      let low : get_or (table P s) t.0 0 ≡ 0 = (inv_table P wf s runs).quiet t.0 small in
      lowest_found (table P s) (table P (suc s)) (width P) 0 t.0 (omega arith) (omega arith) (omega arith)

  pub last_in : last_cell P s < width P
  last_in = omega (arith, last_found.0)

  pub last_raised : get_or (table P s) (last_cell P s) 0 < get_or (table P (suc s)) (last_cell P s) 0
  last_raised = last_found.1

  pub last_first_alarm : (line_at P (table P (suc s)) (last_cell P s)).point ≡ 0
  last_first_alarm = first_point_lem P wf (table P (suc s)) (last_cell P s) last_in

  pub last_plain : Is (plain P.propositions (line_at P (table P (suc s)) (last_cell P s)).label)
  last_plain = go (next_cases P wf (table P s) (table P (suc s)) (next_is P wf (table P s) v.sized) l (cell_line P wf (table P (suc s)) (last_cell P s) (le_trans last_in (width_le P wf)) (omega (arith, last_raised))))
    where
      v : Inv P wf (table P s)
      v = inv_table P wf s runs

      l : Line
      l = line_at P (table P (suc s)) (last_cell P s)

      go : Cell P (table P s) l ⊎ Given P (Cell P (table P s)) l → Is (plain P.propositions l.label)
      go (inl d) = absurd (quiet_no_line P (table P s) v.quiet l d last_first_alarm)
      go (inr g) = given_plain P wf (table P s) v.quiet l g last_first_alarm
