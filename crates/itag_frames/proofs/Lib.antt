pub mod BackboneLaws
pub mod ClassifyLaws
pub mod ControlLaws
