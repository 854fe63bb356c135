pub mod Laying
pub mod Numbers
pub mod Rows
pub mod Words
pub mod Lines
