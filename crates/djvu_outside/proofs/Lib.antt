-- which of the calls to come fail: `Calls::fails`
mod CallLemmas
-- files by index and by name: the folders in memory
mod FolderLemmas
-- names in order: `list`
mod OrderLemmas
-- a file, read piece by piece: `read_file`
mod FileLemmas
-- for crates above: parts of a run, one after another
pub mod Lemmas
