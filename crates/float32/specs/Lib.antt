pub mod Float32
pub mod Value
