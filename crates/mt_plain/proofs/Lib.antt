mod Found
mod Tallies
