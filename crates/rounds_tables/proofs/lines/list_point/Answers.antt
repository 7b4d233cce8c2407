-- The loop's invariant: the lines of the cells passed are listed twice.
use mathlib.Core.Path.{◌≡◌}
use Prim.Native.Nat.{◌+◌, ◌*◌, ◌≤◌}
use native.Mathlib.Omega.{arith}
use Rattle.rounds_tables.proofs.LineLists.{row_at, some_line, start_line, no_line, listed_none, listed_more, listed_same}
use Rattle.rounds_tables.proofs.lines.list_point.Goals.{then-c-eq0, then-c-eq0-via-then-c-eq0, then-c-eq0-via-else-c-eq0+then-wait-ne0, else-c-eq0+else-wait-ne0}
use Rattle.rounds_tables.proofs.lines.list_point.Goals as goal

pub loop-c-init : goal.loop-c-init
loop-c-init c = let a = c.args in
    let apart : 2 * a.y * a.width + a.width ≤ (2 * a.y + 1) * a.width = omega arith in
    (omega arith, omega arith, omega arith, apart, omega arith, listed_none _ _ _ _ _ a.width apart c.requires.lists_long)

pub loop-c-preserved : goal.loop-c-preserved
loop-c-preserved c =
    let i = c.loop-c.invariant in
    let read = row_at c.args.table.now (c.args.y * c.args.width) c.args.width c.loop-c.c (omega arith) in
    elim c.if-c-eq0.branch [
      | then-c-eq0 w ↦
          let r = listed_more _ _ _ _ _ _ i.3 i.4 _ _ _ (omega arith) i.5 _ _ (elim w.then-c-eq0.branch [ then-c-eq0-via-then-c-eq0 v ↦ start_line _ _ v.if-c-eq0.true | then-c-eq0-via-else-c-eq0+then-wait-ne0 v ↦ some_line _ _ (rw read at v.if-wait-ne0.true) ]) w.lists-is w.n-is in
          (omega arith, r.1, i.2, i.3, i.4, r.0)
      | else-c-eq0+else-wait-ne0 w ↦
          let r = listed_same _ _ _ _ _ _ i.3 i.4 _ _ _ (omega arith) i.5 _ _ (no_line _ _ (rw read at w.if-wait-ne0.false) w.if-c-eq0.false) w.lists-is w.n-is in
          (omega arith, r.1, i.2, i.3, i.4, r.0)
    ]

pub returns : goal.returns
returns c = let l = c.loop-c in
    let e : l.c ≡ c.args.width = omega arith in
    let r = l.invariant.5 in
    record { listed_point = record { raised_are = rw e at r.raised_are; lines_are = rw e at r.lines_are; lists_before = r.before_stay }; same_length = r.as_long }
