pub mod Given
pub mod Description
