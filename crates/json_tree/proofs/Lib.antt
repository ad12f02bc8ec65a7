pub mod Newlines
pub mod Canonicals
pub mod Rows
pub mod LineLaws
pub mod WritableRows
