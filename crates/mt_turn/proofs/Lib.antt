pub mod Facts
mod Lists
mod Phases
mod Moves
mod Waiting
mod Serving
mod Numbering
mod Splitting
mod Joining
mod Ends
mod Leaving
