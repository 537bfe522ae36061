pub mod CountLemmas
pub mod PathLemmas
pub mod WordsLemmas
pub mod ScriptsLemmas
