pub mod Word
pub mod Inverse
pub mod WordOf
