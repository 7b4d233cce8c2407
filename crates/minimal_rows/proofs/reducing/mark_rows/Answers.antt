-- The marks of the rows are written at once.
use mathlib.Core.Path.{◌≡◌, sym, ap, ◌∙◌}
use mathlib.Core.List.{List}
use Prim.Native.Nat.{ℕ, ◌+◌, ◌-◌, ◌≤◌}
use native.Mathlib.Omega.{arith}
use lib.ListN.{length, take, drop, replicate, length-take, length-drop, length-replicate}
use Rattle.std.proofs.lemmas.Slice.{put_mid-paste}
use Rattle.minimal_rows.proofs.RunLaws.{run_pasted}
use Rattle.minimal_rows.proofs.reducing.mark_rows.Goals as goal

length-mid : (i n : ℕ) (ms : List ℕ) → i + n ≤ length ms → length (take (i + n - i) (drop i ms)) ≡ n
length-mid i n ms h = omega (arith, length-take (i + n - i) (drop i ms), length-drop i ms)

pub returns-clause-marks_value : goal.returns-clause-marks_value
returns-clause-marks_value c =
    put_mid-paste _ _ _ _ (replicate c.args.n c.args.mark) c.args.n (c.fill.ensures.after (λ y e. e) ∙ ap (λ (k : ℕ). replicate k c.args.mark) (length-mid _ _ _ c.requires)) (omega arith) (sym (length-replicate _ _)) ∙ sym (run_pasted _ _ _ _ c.requires)
