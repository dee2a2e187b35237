pub mod Same
pub mod Order
pub mod Lists
pub mod Pass
pub mod After
pub mod Comparing
