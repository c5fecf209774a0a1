-- What holds of runs: at each moment, at each stop, at the end, and of several jobs in a row.
pub mod Moments
pub mod Stops
pub mod Ends
pub mod Stretches
pub mod Safety
pub mod OneJob
pub mod Rows
pub mod Worked
pub mod Troubles
