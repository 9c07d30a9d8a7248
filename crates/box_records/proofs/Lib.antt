pub mod WordLaws
pub mod SiteLaws
pub mod ThreadLaws
pub mod RecordLaws
