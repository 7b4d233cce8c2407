-- A cell that is no less stays; one that is stored anew is noted where the table's wait stood there, and then a note has room.
use native.Mathlib.Nat.{zero-add}
use native.Mathlib.Omega.{arith}
use Rattle.rules.proofs.Raising.{raise_up, raise_none}
use Rattle.rules_listed.proofs.Having.{noted_had}
use Rattle.rules_listed.proofs.Noting.{note_fits, noted_new, noted_again}
use Rattle.rules_listed.proofs.part.Part.raise.Goals as goal

pub returns-then-wait-from-clause-cells_value : goal.returns-then-wait-from-clause-cells_value
returns-then-wait-from-clause-cells_value c = raise_none _ _ _ (omega (arith, c.from.ensures))

pub bounds-cells-place-2 : goal.bounds-cells-place-2
bounds-cells-place-2 c = omega (arith, (noted_had c.args.self.now.noted).part_long)

pub offset_bounds-notes-count : goal.offset_bounds-notes-count
offset_bounds-notes-count c = let n = noted_had c.args.self.now.noted in
    omega (arith, n.notes_long, c.args.self.now.narrow, note_fits _ _ _ _ _ _ _ c.args.wait n c.requires.place_in.0 (omega arith) (rw zero-add c.if-was-own.true))

pub bounds-notes-count : goal.bounds-notes-count
bounds-notes-count c = let n = noted_had c.args.self.now.noted in
    omega (arith, n.notes_long, c.args.self.now.narrow, note_fits _ _ _ _ _ _ _ c.args.wait n c.requires.place_in.0 (omega arith) (rw zero-add c.if-was-own.true))

pub overflow_add-count : goal.overflow_add-count
overflow_add-count c = let n = noted_had c.args.self.now.noted in
    omega (arith, n.notes_long, c.args.self.now.narrow, note_fits _ _ _ _ _ _ _ c.args.wait n c.requires.place_in.0 (omega arith) (rw zero-add c.if-was-own.true))

pub invariant_of-self-then-was-own : goal.invariant_of-self-then-was-own
invariant_of-self-then-was-own c = record { narrow = c.args.self.now.narrow; noted = ∣ noted_new _ _ _ _ _ _ _ _ (noted_had c.args.self.now.noted) c.requires.place_in.0 (omega arith) (rw zero-add c.if-was-own.true) ∣₁ }

pub invariant_of-self-else-was-own : goal.invariant_of-self-else-was-own
invariant_of-self-else-was-own c = record { narrow = c.args.self.now.narrow; noted = ∣ noted_again _ _ _ _ _ _ _ _ (noted_had c.args.self.now.noted) c.requires.place_in.0 (omega arith) (rw zero-add c.if-was-own.false) ∣₁ }

pub returns-then-was-own-clause-cells_value : goal.returns-then-was-own-clause-cells_value
returns-then-was-own-clause-cells_value c = raise_up _ _ _ (omega arith)

pub returns-else-was-own-clause-cells_value : goal.returns-else-was-own-clause-cells_value
returns-else-was-own-clause-cells_value c = raise_up _ _ _ (omega arith)
