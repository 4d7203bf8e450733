pub mod Flights
pub mod UnderWay
pub mod Objects
pub mod Apart
