pub mod StoresByteLemmas
pub mod WordLemmas
pub mod RunLemmas
pub mod FillLemmas
pub mod SavedLemmas
