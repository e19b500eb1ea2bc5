pub mod Advised
pub mod Clearances
pub mod Effects
pub mod Found
pub mod Struck
