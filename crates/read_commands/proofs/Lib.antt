pub mod StartupLemmas
