mod Beats
mod Cutting
mod Faults
mod FirstLines
mod Giving
mod Heads
mod Opened
