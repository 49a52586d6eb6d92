pub mod Clashes
pub mod Tables
pub mod OneAnswer
pub mod Places
pub mod FirstPlaces
