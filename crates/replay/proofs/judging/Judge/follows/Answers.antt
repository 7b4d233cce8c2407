-- `replay::judging::Judge::follows` meets its contract: the parents are lines that the rule may be applied to.
use Rattle.replay.proofs.JudgeLaws.{parents_lent}
use Rattle.replay.proofs.judging.Judge.follows.Goals as goal

pub gives_line-requires : goal.gives_line-requires
gives_line-requires c = search parents_lent
