pub mod AcceptedLaws
pub mod CauseLaws
pub mod HeadlineLaws
pub mod MeaningLaws
pub mod ReachingLaws
pub mod ReplayedLaws
pub mod WordLaws
pub mod WantLaws
