pub mod GoingOn
pub mod LeftLaws
pub mod LinkLaws
pub mod NameLaws
pub mod RunLaws
