pub mod Admitted
pub mod OfferedLaw
pub mod Submitting
