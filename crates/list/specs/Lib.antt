pub mod Limits
pub mod Kinds
pub mod Refusals
pub mod Listed
pub mod Answers
pub mod Claims
