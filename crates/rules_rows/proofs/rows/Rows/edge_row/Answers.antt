-- The row is what was read of the edge.
use native.Mathlib.Omega.{arith}
use Rattle.plan.proofs.Ranges.{accepted_bounded, accepted_well_formed}
use mathlib.Core.Path.{refl, ap, ◌∙◌}
use Rattle.rules_rows.specs.declared.numbers.EdgeNumbers.{EdgeNumbers}
use Rattle.rules_rows.proofs.rows.Rows.edge_row.Goals as goal

pub offset_bounds-self-i : goal.offset_bounds-self-i
offset_bounds-self-i c = omega (arith, (accepted_bounded _ c.args.self.now.accepted).edges_in)

pub bounds-self-i : goal.bounds-self-i
bounds-self-i c = omega (arith, (accepted_bounded _ c.args.self.now.accepted).edges_in)

pub returns : goal.returns
returns c =
    let is = c.args.self.now.read.edges_are.edge_is c.args.i (omega arith) c.requires in
    let down = c.from-4.ensures ∙ ap (λ (e : EdgeNumbers). e.down) is in
    record {
      from_is = c.from.ensures ∙ ap (λ (e : EdgeNumbers). e.to) is;
      avoid_is = refl;
      add_is = c.from-2.ensures ∙ ap (λ (e : EdgeNumbers). e.label) is;
      up_is = c.from-3.ensures ∙ ap (λ (e : EdgeNumbers). e.up) is;
      down_is = down;
      down_small = omega (arith, down, (accepted_well_formed _ c.args.self.now.accepted).down_le c.args.i c.requires, (accepted_bounded _ c.args.self.now.accepted).largest_in);
    }
