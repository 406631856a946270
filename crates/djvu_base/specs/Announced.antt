-- What a notice tells of a page.
use Rattle.std.specs.Prelude.{ℕ}
use Rattle.djvu_base.specs.Picture.{Picture}

pub record Announced : Type 0 where
  -- how many of the page's chunks are done
  pub chunks : ℕ
  -- the sum of all samples of its drawing
  pub sum : ℕ
  -- its drawing in small
  pub preview : Picture
