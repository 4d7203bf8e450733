pub mod Order
pub mod Choosing
pub mod Working
pub mod UnderWay
