pub mod Unsynced
