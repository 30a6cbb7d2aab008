pub mod DrainLimits
pub mod DrainCalls
pub mod DrainSteps
pub mod BaseLimits
pub mod ToBase
pub mod CaseStatus
pub mod Wanting
