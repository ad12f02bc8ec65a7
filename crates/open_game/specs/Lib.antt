pub mod Arguments
pub mod Form
pub mod Forms
pub mod OpenGames
pub mod OpenRules
pub mod Sheets
