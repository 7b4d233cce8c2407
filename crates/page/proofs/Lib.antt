mod ColumnLaws
mod LineLaws
mod PageLaws
pub mod AnswerLaws
mod BenchPage
