pub mod OneMinimum
