pub mod Values
pub mod Walk
pub mod Stood
pub mod Lent
pub mod Lending
pub mod Firsts
