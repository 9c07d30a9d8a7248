pub mod LineSets
pub mod Rules
