pub mod Limits
pub mod Multiple
pub mod Entries
pub mod Rules
pub mod Promises
pub mod Checked
