pub mod Below
pub mod served
pub mod places
pub mod asks
pub mod locks
