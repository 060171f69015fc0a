pub mod Put
pub mod PutLoop
