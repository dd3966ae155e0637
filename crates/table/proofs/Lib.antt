pub mod Columns
pub mod Inside
pub mod Claims
pub mod Agrees
