pub mod EndToEnd
pub mod BuiltCells
pub mod CaseTable
pub mod OneAnswer
pub mod Sheets
