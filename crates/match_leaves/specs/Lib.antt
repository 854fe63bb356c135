pub mod Evaluable
pub mod Results
