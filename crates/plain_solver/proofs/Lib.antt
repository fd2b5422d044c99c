pub mod ScanLaws
pub mod SettleLaws
pub mod ConflictLaws
pub mod RoundLaws
