pub mod BatchLemmas
pub mod CrewLemmas
pub mod LagLemmas
pub mod StepLemmas
pub mod PassLemmas
pub mod TouchLemmas
