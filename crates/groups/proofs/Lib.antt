pub mod Visits
pub mod Pushing
pub mod Ordering
