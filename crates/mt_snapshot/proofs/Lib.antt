mod Dues
mod FiledOrder
mod Filling
pub mod OneAnswer
mod Placing
pub mod Planned
pub mod Probes
mod Told
mod Trajectories
