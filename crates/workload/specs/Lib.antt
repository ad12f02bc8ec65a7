pub mod IsLoad
