pub mod SlotsSteps
pub mod WritersSteps
pub mod Examples
