pub mod Lines
pub mod Report
pub mod Rules
pub mod Parts
pub mod Promises
