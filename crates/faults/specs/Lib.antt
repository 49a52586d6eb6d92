pub mod Sites
pub mod Rules
pub mod Records
pub mod Stuck
pub mod Classes
pub mod Kinds
pub mod Checked
