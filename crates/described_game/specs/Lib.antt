pub mod Arguments
pub mod DescribedLaws
pub mod DescribedRules
pub mod Hooks
pub mod Moves
pub mod Offers
pub mod Rising
pub mod Tests
