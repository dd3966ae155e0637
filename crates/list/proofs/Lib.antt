pub mod Slots
pub mod First
pub mod Refusals
pub mod Patterns
pub mod Scans
pub mod Checks
pub mod Sound
