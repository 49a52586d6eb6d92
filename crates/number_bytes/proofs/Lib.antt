pub mod ByteLaws
pub mod NumberLaws
