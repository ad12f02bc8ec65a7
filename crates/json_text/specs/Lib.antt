pub mod Numbers
pub mod Unescaped
