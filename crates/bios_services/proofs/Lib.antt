pub mod PlanRuns
pub mod GlyphLemmas
pub mod ReasonLemmas
pub mod BoundLemmas
pub mod RefusedLemmas
pub mod BlockLemmas
pub mod CardLemmas
pub mod KeptLemmas
