pub mod AnswerLaws
mod JudgingLaws
mod BenchClasses
