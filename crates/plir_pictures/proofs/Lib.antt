mod Levels
mod StepsLeft
mod Stepping
mod Marks
mod Pieces
mod Ending
mod Rows
mod Drawn
