pub mod Trie
pub mod Owned
pub mod Answers
pub mod Made
pub mod Stands
pub mod Children
