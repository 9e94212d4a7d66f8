mod Gathering
mod Giving
