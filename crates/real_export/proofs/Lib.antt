pub mod EachLaws
pub mod PutLaws
pub mod PartLaws
pub mod WholeLaws
pub mod RuleLaws
