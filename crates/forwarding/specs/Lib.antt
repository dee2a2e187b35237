pub mod Detaching
pub mod Laws
pub mod Placed
pub mod Ports
pub mod Receiving
pub mod Tenant
