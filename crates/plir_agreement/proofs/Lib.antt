mod Shapes
mod Staying
mod Names
mod Moving
mod Passing
