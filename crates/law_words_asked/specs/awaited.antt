pub mod WriteArrivals
pub mod ReadArrivals
pub mod TakenUp
pub mod BorrowArrivals
pub mod EndArrivals
