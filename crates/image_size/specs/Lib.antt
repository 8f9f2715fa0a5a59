pub mod ImageSize
