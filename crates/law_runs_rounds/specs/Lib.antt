pub mod Below
pub mod rounds
pub mod room
