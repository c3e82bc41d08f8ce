pub mod CleanUp
pub mod OneStep
