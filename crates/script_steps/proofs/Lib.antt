pub mod FormLaws
pub mod Printed
pub mod StepLaws
pub mod PieceLaws
pub mod MarkLaws
