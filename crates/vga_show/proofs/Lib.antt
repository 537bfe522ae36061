pub mod TextLemmas
pub mod CellLemmas
