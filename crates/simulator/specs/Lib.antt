pub mod Faulty
pub mod Shown
pub mod Others
pub mod Rules
pub mod Promises
