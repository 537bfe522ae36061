pub mod SavedLemmas
pub mod RowLemmas
