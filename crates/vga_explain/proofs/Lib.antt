pub mod PortLemmas
pub mod AnswerLemmas
