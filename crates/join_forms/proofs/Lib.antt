pub mod Pieces
pub mod Frames
pub mod Functions
pub mod Graphs
pub mod Groups
pub mod Stages
pub mod Turns
pub mod Shapes
