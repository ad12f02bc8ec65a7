pub mod Askable
pub mod Counted
pub mod Doing
pub mod Joining
pub mod PeerLaws
pub mod Peering
pub mod Texts
pub mod Unmarked
