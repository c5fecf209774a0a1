pub mod RanLemmas
pub mod OwnLemmas
pub mod EndLemmas
pub mod StopLemmas
