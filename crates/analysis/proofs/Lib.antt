pub mod Replies
pub mod There
pub mod Refused
