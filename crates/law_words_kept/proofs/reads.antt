pub mod Meets
pub mod ReadPlaces
pub mod FreshReads
pub mod Flights
pub mod OwnChains
pub mod Homes
pub mod Lookups
