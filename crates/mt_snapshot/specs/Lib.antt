pub mod Advised
pub mod Private
