-- `answer` of `Shelf::take_on`
mod Readings
