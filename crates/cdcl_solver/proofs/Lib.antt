pub mod BackLaws
pub mod DecideLaws
pub mod HighestLaws
pub mod ListLaws
pub mod LearnLaws
pub mod OpenLaws
pub mod TurnLaws
pub mod GoneLaws
