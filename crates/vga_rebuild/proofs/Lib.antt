pub mod FontLemmas
pub mod LikenessLemmas
pub mod ReportLemmas
