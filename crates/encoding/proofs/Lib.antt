pub mod Pieces
pub mod Numbers
pub mod Places
pub mod Records
pub mod Tails
pub mod Headers
pub mod Blocks
pub mod Graphs
