pub mod UnsyncedLemmas
