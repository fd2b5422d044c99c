pub mod ContentLaws
pub mod JudgeLaws
pub mod WatchLaws
pub mod VisitLaws
pub mod QueueLaws
pub mod PassLaws
