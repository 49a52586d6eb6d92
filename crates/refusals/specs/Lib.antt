pub mod Tables
pub mod Places
pub mod Answers
