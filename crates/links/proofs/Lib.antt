pub mod States
pub mod Queue
pub mod Hunting
pub mod Tops
pub mod Noting
pub mod Turning
pub mod Walking
pub mod Rounds
