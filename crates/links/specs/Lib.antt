pub mod Notes
pub mod Linked
pub mod Queue
