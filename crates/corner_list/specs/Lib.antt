pub mod CornerList
pub mod Buffer
