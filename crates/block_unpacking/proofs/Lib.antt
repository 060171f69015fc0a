pub mod GetLoop
