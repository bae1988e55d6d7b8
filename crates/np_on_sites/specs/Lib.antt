pub mod Beginnings
pub mod ByInfrastructure
pub mod Safe
pub mod SitesRuns
pub mod SourceRuns
