pub mod SiteLaws
pub mod RecordLaws
pub mod RuleLaws
pub mod ClassLaws
pub mod ClassParts
pub mod ClassLists
pub mod ClassCounts
pub mod SiteCount
