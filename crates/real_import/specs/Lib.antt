pub mod Rules
pub mod Answers
pub mod Promises
pub mod Lines
pub mod Results
