pub mod Acted
pub mod Agreeing
pub mod Asking
pub mod Cutting
pub mod HeardOn
pub mod Sending
pub mod SentLines
