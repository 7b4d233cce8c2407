pub mod TrialLaws
pub mod ProcedureLaws
pub mod AnswerLaws
mod TrialsMade
mod BenchRows
mod RunLaws
mod MarkLaws
