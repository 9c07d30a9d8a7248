pub mod SiteWalks
pub mod BoxWalks
