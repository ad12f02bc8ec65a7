pub mod FileFits
