pub mod Parts
pub mod Rules
pub mod Promises
