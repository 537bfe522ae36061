pub mod SavedLemmas
pub mod EntryLemmas
