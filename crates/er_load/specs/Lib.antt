pub mod Faults
pub mod Workloads
pub mod Inner
