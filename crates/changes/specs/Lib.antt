pub mod MissingName
pub mod Hiding
pub mod PrivateFirst
pub mod LongerRuns
