pub mod Damage
pub mod Gates
pub mod Ready
pub mod Records
