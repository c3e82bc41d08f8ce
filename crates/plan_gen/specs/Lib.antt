pub mod Census
pub mod PlanList
pub mod LoopRuns
pub mod RiggedAnswers
pub mod Rigs
pub mod inside
