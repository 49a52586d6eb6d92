pub mod Dropping
pub mod Rules
pub mod Records
pub mod Promises
