pub mod GrownScenarios
pub mod inside
