pub mod Pending
pub mod FileEffects
pub mod Disk
pub mod Refusals
pub mod Later
pub mod LogEffects
pub mod inside
