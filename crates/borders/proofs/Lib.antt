pub mod Computing
pub mod Longest
pub mod Borders
