pub mod Image
pub mod Rules
pub mod Answers
pub mod Wanted
pub mod Promises
