pub mod Internal
pub mod Peaks
pub mod Enough
pub mod Sure
pub mod Centroid
