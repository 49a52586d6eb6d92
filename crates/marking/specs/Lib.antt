pub mod Marks
pub mod Levels
pub mod Tallies
pub mod Firsts
