mod RowNumbers
mod EntryBytes
pub mod ExactTables
mod Appending
mod HandedOver
mod CountLaws
mod EntryLaws
mod IndexStores
mod RaisedLaws
mod RoundLaws
