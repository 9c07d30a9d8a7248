pub mod Ready
pub mod Found
pub mod Inside
pub mod Threads
