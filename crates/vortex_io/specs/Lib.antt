pub mod Failing
pub mod Laws
pub mod Lying
pub mod Memory
pub mod Orders
pub mod Source
