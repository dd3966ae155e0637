pub mod Repeated
pub mod Demands
pub mod ShutOut
