pub mod RowsRead
