pub mod Typing
pub mod Forms
pub mod Grammar
pub mod Parts
pub mod Examples
