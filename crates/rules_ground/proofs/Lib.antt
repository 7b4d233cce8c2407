mod RowLaws
mod NextLaws
pub mod LineLaws
mod AnswerLaws
mod PlaceLaws
mod ParentLaws
mod SearchedLaws
mod WholeLaws
pub mod RaisedCells
