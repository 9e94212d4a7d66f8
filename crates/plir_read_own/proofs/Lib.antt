mod Again
mod Steps
mod Wholes
