-- A timing plan as the rules see it (1): a conditional simple temporal network with uncertainty.
-- Rows are functions of their number, so that a plan with rows left out or added, or with a horizon of its own, is a Plan too.
use Rattle.std.specs.Prelude.{ℕ, ◌*◌, ◌^◌}

pub record Plan : Type 0 where
  -- 1.1 to 1.4: the sizes n, p, k and e
  pub points : ℕ
  pub propositions : ℕ
  pub links : ℕ
  pub edges : ℕ
  -- 1.2: the observing point of a proposition
  pub observer : ℕ → ℕ
  -- 1.3: a contingent link: activation A, end C, least duration s, most y
  pub activation : ℕ → ℕ
  pub finish : ℕ → ℕ
  pub least : ℕ → ℕ
  pub most : ℕ → ℕ
  -- 1.4: an edge from X to Y: Y - X ≤ u under a label; the weight u is up - down, and one of the two is 0
  pub from : ℕ → ℕ
  pub to : ℕ → ℕ
  pub up : ℕ → ℕ
  pub down : ℕ → ℕ
  pub label : ℕ → ℕ
  -- 22.1: the label of a point
  pub point_label : ℕ → ℕ
  -- 1.5, 1.6: M, and the weight of the horizon edges
  pub largest : ℕ
  pub horizon : ℕ

-- 5.2: the cells of one point, 2^k × 4^p, and of a plan
abbrev pub width : Plan → ℕ
width P = 2 ^ P.links * 4 ^ P.propositions

abbrev pub cells : Plan → ℕ
cells P = P.points * width P
