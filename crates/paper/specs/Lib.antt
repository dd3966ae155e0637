pub mod Lists
pub mod Patterns
pub mod Matches
pub mod Automaton
pub mod Claims
pub mod Cases
