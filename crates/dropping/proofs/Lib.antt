pub mod PlainLaws
pub mod DropLaws
pub mod RuleLaws
pub mod SameLaws
pub mod Faults
