-- What reading a number comes to.
use Rattle.std.specs.Prelude.{ℤ}

-- the number; or its next decision isn't determined by the bytes so far; or it would need too many bits past their end
pub data Answer : Type 0 where
  Number : ℤ → Answer
  NeedBytes : Answer
  Exhausted : Answer
