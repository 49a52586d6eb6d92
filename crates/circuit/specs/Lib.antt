pub mod Limits
pub mod Gates
pub mod Controls
pub mod Runs
pub mod Rules
pub mod Sound
pub mod Promises
pub mod Checked
