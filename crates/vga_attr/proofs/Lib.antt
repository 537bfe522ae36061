pub mod PaletteLemmas
pub mod TableLemmas
pub mod SavedLemmas
