pub mod Sample
pub mod Table
