-- What crates above may cite of the proofs here: how ticks raise a count. Each has its clause in `laws::ticks_add_up`.
pub mod Ticks
