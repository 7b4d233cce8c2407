-- For inner contracts only: the shapes of a plan's rows. Nothing here is to be believed: the whole makes `next_part`.
use Rattle.std.specs.Prelude.{◌≡◌, ℕ, ◌^◌, ◌<◌}
use Rattle.plan.specs.Plan.{Plan}
use Rattle.rules.specs.declared.Edge.{Edge}
use Rattle.rules.specs.Rules.{constraint_of}
use Rattle.rules_fill.specs.declared.shapes.Propagator.{Propagator}
use Rattle.rules_fill.specs.declared.shapes.Remover.{Remover}
use Rattle.rules_fill.specs.Shapes.{link_bit, digit_mask}

-- rule 1 of an edge
pub record EdgeRow (P : Plan) (e : Edge) (r : Propagator) : Type 0 where
  pub from_is : r.from ≡ (constraint_of P e).to
  pub avoid_is : r.avoid ≡ 0
  pub add_is : r.add ≡ (constraint_of P e).label
  pub up_is : r.up ≡ (constraint_of P e).up
  pub down_is : r.down ≡ (constraint_of P e).down
  pub down_small : r.down < 65536

-- rule 2 of link i
pub record LowerRow (P : Plan) (i : ℕ) (r : Propagator) : Type 0 where
  pub from_is : r.from ≡ P.finish i
  pub avoid_is : r.avoid ≡ link_bit P.propositions i
  pub add_is : r.add ≡ 0
  pub up_is : r.up ≡ P.least i
  pub down_is : r.down ≡ 0

-- rule 3 of link i
pub record UpperRow (P : Plan) (i : ℕ) (r : Propagator) : Type 0 where
  pub from_is : r.from ≡ P.activation i
  pub avoid_is : r.avoid ≡ 0
  pub add_is : r.add ≡ link_bit P.propositions i
  pub up_is : r.up ≡ 0
  pub down_is : r.down ≡ P.most i
  pub down_small : r.down < 65536

-- rule 4 of link i
pub record LetterRow (P : Plan) (i : ℕ) (r : Remover) : Type 0 where
  pub other_is : r.other ≡ P.activation i
  pub mask_is : r.mask ≡ link_bit P.propositions i
  pub low_is : r.low ≡ link_bit P.propositions i
  pub add_is : r.add ≡ P.least i
  pub add_small : r.add < 65536

-- rule 6 of proposition j
pub record LiteralRow (P : Plan) (j : ℕ) (r : Remover) : Type 0 where
  pub other_is : r.other ≡ P.observer j
  pub mask_is : r.mask ≡ digit_mask j
  pub low_is : r.low ≡ 4 ^ j
  pub add_is : r.add ≡ 0
