pub mod PortLemmas
pub mod Places
pub mod SystemNumbers
pub mod RowNumbers
