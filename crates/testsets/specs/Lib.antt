pub mod Limits
pub mod Log2
pub mod Sets
pub mod Left
pub mod FaultsLeft
pub mod Rules
pub mod Promises
