pub mod Cutting
pub mod EntriesPut
pub mod LinesPrinted
pub mod LinesRead
pub mod NeverWrong
