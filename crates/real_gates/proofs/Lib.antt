pub mod KeyLaws
pub mod TokenLaws
pub mod ControlLaws
pub mod GateLaws
