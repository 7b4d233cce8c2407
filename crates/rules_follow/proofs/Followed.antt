-- A panel that follows a closed table in which the first alarm does not wait keeps the plan.
use mathlib.Core.Path.{◌≡◌, refl, sym, ◌∙◌}
use mathlib.Core.Logic.{inl, inr}
use mathlib.Core.List.{List, ◌++◌}
use Prim.Native.Nat.{ℕ, ◌-◌, ◌^◌, ◌<◌}
use native.Mathlib.Omega.{arith}
use lib.Dec.{lt→ltb}
use lib.ListN.{length, get_or, get_or-append}
use lib.Pow.{pow_pos}
use Rattle.plan.specs.Plan.{Plan, cells}
use Rattle.plan.proofs.Ranges.{WellFormed}
use Rattle.rules.specs.declared.Line.{Line}
use Rattle.rules.specs.Lines.{cell_of}
use Rattle.rules.proofs.Cells.{cell_lt}
use Rattle.rules.proofs.Deriving.{no_wait, given_map}
use Rattle.rules.proofs.InRange.{range}
use Rattle.rules.proofs.Next.{Cell}
use Rattle.rules.proofs.FirstAlarm.{Quiet, quiet_no_line, width_le}
use Rattle.rules_panel.specs.Dramas.{AnyDuration, Drama}
use Rattle.rules_panel.specs.Strategies.{Viable}
use Rattle.rules_follow.specs.Following.{Preference, steps_by, run, final, Followed}
use Rattle.rules_follow.proofs.Lateness.{Out, lateness, none_late}
use Rattle.rules_follow.proofs.TableLines.{Held, Closed, HasLine, weaker}
use Rattle.rules_follow.proofs.KnownDigits.{TrueDigit, known_true}
use Rattle.rules_follow.proofs.Stepping.{Executed}
use Rattle.rules_follow.proofs.KeptEdges.{Timed, keeps}
use Rattle.rules_follow.proofs.Invariant.{Invariant, since_done, holds}
use Rattle.rules_follow.proofs.Runs.{all_come}
use Rattle.rules_follow.proofs.Reacting.{on_time, strategy, same_place}

-- what follows the plan's cells does not matter
module _ {P : Plan} (wf : WellFormed P) (A F : List ℕ) (whole : length A ≡ cells P) where
  same_cell : (c : ℕ) → c < cells P → get_or (A ++ F) c 0 ≡ get_or A c 0
  same_cell c h = get_or-append A F 0 c (omega arith)

  cell_of_lem : (l : Line) → Cell P (A ++ F) l → Cell P A l
  cell_of_lem l c = record { inside = c.inside; above = c.above; holds = sym (same_cell (cell_of P l) (cell_lt P l c.inside)) ∙ c.holds }

  pub closed_on : Closed P A → Closed P (A ++ F)
  closed_on closed k g = let h = given_map cell_of_lem g in rw (same_cell (cell_of P k) (cell_lt P k (range P wf (λ l c. c.inside) h))) (closed k h)

  pub quiet_on : Quiet P A → Quiet P (A ++ F)
  quiet_on quiet c h = same_cell c (omega (arith, h, width_le P wf)) ∙ quiet c h

module _ {P : Plan} (wf : WellFormed P) {T : List ℕ} (closed : Closed P T) (quiet : Quiet P T) (prefer : Preference) where
  abbrev N : ℕ
  N = steps_by P T

  abbrev time_in : Drama P AnyDuration → ℕ → ℕ
  time_in r x = (final P T prefer r).time x

  come : (r : Drama P AnyDuration) (x : ℕ) → x < P.points → Executed (run P T prefer r N) x
  come r = all_come wf closed prefer r

  invariant : (r : Drama P AnyDuration) → Invariant T r (run P T prefer r N)
  invariant r = holds wf closed prefer r N

  sure_at : (r : Drama P AnyDuration) (D : ℕ) → D < 2 ^ P.links → (x : ℕ) → x < P.points → HasLine P T x (time_in r x - lateness r D) (Out D) (TrueDigit r)
  sure_at r D hD x hx =
      let e = since_done (run P T prefer r N) x (come r x hx) in
      weaker ((invariant r).sure D hD x hx) (omega (arith, e)) (λ i k q. q) (λ j d k. known_true r (run P T prefer r N) j d)

  timed : (r : Drama P AnyDuration) → Timed T r (time_in r)
  timed r = record { went = λ x hx ne. (invariant r).went x hx ne (come r x hx); on_time = on_time wf closed prefer r; sure = sure_at r }

  -- the first alarm has no line but its starting line
  first_line_lem : (l : Line) → l.point ≡ 0 → Held P T l → l.wait ≡ 0
  first_line_lem l e (inl q) = no_wait q
  first_line_lem l e (inr q) = absurd (quiet_no_line P T quiet l q e)

  first_at_start : (r : Drama P AnyDuration) → time_in r 0 ≡ 0
  first_at_start r =
      let a = sure_at r 0 (pow_pos P.links) 0 (omega (arith, wf.two)) in
      omega (arith, a.waits, none_late r, first_line_lem a.line a.at a.held)

  viable : Viable (strategy wf closed prefer) 1
  viable = record {
    first_at_start = first_at_start;
    keeps_edge = λ r i h t. omega (arith, keeps wf closed r (time_in r) (timed r) i h t);
    keeps_link = λ r i h. omega (arith, on_time wf closed prefer r i h);
  }

  -- the theorem (20.10)
  pub followed : Followed P T prefer
  followed = record {
    all_come = λ r x h. lt→ltb 0 ((final P T prefer r).step x) (come r x h);
    panel = record { strategy = strategy wf closed prefer; viable = viable; dynamic = record { reacts = same_place wf closed prefer } };
    its_time = λ r x. refl;
    its_position = λ r x. refl;
  }
