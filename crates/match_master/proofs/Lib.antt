pub mod AttachedLaws
pub mod BookLaws
pub mod CallLaws
pub mod ClauseLaws
pub mod JudgeLaws
pub mod LineLaws
pub mod PlaceLaws
pub mod StandsLaws
