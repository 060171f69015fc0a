pub mod Program
pub mod Inside
pub mod Output
