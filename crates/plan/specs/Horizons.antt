-- For inner contracts only: the plan that bytes are, with a horizon handed in. Nothing here is to be believed.
use Rattle.std.specs.Prelude.{List, ℕ}
use Rattle.plan.specs.Plan.{Plan}
use Rattle.plan.specs.Layout.{plan_of}

abbrev pub with_horizon : Plan → ℕ → Plan
with_horizon P h =
    record {
      points = P.points;
      propositions = P.propositions;
      links = P.links;
      edges = P.edges;
      observer = P.observer;
      activation = P.activation;
      finish = P.finish;
      least = P.least;
      most = P.most;
      from = P.from;
      to = P.to;
      up = P.up;
      down = P.down;
      label = P.label;
      point_label = P.point_label;
      largest = P.largest;
      horizon = h;
    }

abbrev pub plan_with : List ℕ → ℕ → Plan
plan_with bs h = with_horizon (plan_of bs) h
