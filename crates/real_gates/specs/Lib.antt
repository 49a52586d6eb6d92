pub mod Tokens
pub mod Keys
pub mod Names
pub mod Gates
