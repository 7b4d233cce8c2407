-- `plan::bytes::word_at` meets its contract.
use borrow.Author.Rules.{rules}
use Rattle.plan.specs.Bytes.{word_at}
use Rattle.plan.proofs.bytes.word_at.Goals as goal

pub returns : goal.returns
unfolding word_at
returns c = search rules
