pub mod TwoBridges
