pub mod Asides
pub mod Creating
pub mod Drafts
pub mod Emptied
pub mod Hosting
pub mod Journals
pub mod Opened
