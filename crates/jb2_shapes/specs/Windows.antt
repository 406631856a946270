-- Windows: the colours near a pixel, by rows, as binary numbers, and so many pixels at hand of those that come next.
use Rattle.std.specs.Prelude.{◌≡◌, [], ◌∷◌, ℤ, pos, ◌+ℤ◌, ◌-ℤ◌}
use Rattle.bit_plane.specs.Pixels.{Pixels, is_black}
use Rattle.jb2_shapes.specs.declared.windows.DirectWindow.{DirectWindow}
use Rattle.jb2_shapes.specs.declared.windows.RefinedWindow.{RefinedWindow}
use Rattle.jb2_shapes.specs.Refined.{Matching}
use Rattle.jb2_shapes.specs.Numbers.{number_from}
use Rattle.bit_plane.specs.Rows.{IsRun}

-- the window of (x, y) in a direct shape
pub record IsDirectWindow (shape : Pixels) (x y : ℤ) (window : DirectWindow) : Type 0 where
  pub far : window.far ≡ number_from 0 (is_black shape (x -ℤ pos 1) (y +ℤ pos 2) ∷ is_black shape x (y +ℤ pos 2) ∷ is_black shape (x +ℤ pos 1) (y +ℤ pos 2) ∷ [])
  pub near : window.near ≡ number_from 0 (is_black shape (x -ℤ pos 2) (y +ℤ pos 1) ∷ is_black shape (x -ℤ pos 1) (y +ℤ pos 1) ∷ is_black shape x (y +ℤ pos 1)
      ∷ is_black shape (x +ℤ pos 1) (y +ℤ pos 1) ∷ is_black shape (x +ℤ pos 2) (y +ℤ pos 1) ∷ [])
  pub own : window.own ≡ number_from 0 (is_black shape (x -ℤ pos 2) y ∷ is_black shape (x -ℤ pos 1) y ∷ [])
  pub far_ahead : IsRun shape (x +ℤ pos 2) (y +ℤ pos 2) window.more window.far_ahead
  pub near_ahead : IsRun shape (x +ℤ pos 3) (y +ℤ pos 1) window.more window.near_ahead

-- the window of (x, y) in a refined shape
pub record IsRefinedWindow (matching : Matching) (shape : Pixels) (x y : ℤ) (window : RefinedWindow) : Type 0 where
  pub above : window.above ≡ number_from 0 (is_black shape (x -ℤ pos 1) (y +ℤ pos 1) ∷ is_black shape x (y +ℤ pos 1) ∷ is_black shape (x +ℤ pos 1) (y +ℤ pos 1) ∷ [])
  pub left : window.left ≡ is_black shape (x -ℤ pos 1) y
  pub over : window.over ≡ is_black matching.matched (x +ℤ matching.right) (y +ℤ matching.up +ℤ pos 1)
  pub beside : window.beside ≡ number_from 0 (is_black matching.matched (x +ℤ matching.right -ℤ pos 1) (y +ℤ matching.up)
      ∷ is_black matching.matched (x +ℤ matching.right) (y +ℤ matching.up) ∷ is_black matching.matched (x +ℤ matching.right +ℤ pos 1) (y +ℤ matching.up) ∷ [])
  pub under : window.under ≡ number_from 0 (is_black matching.matched (x +ℤ matching.right -ℤ pos 1) (y +ℤ matching.up -ℤ pos 1)
      ∷ is_black matching.matched (x +ℤ matching.right) (y +ℤ matching.up -ℤ pos 1) ∷ is_black matching.matched (x +ℤ matching.right +ℤ pos 1) (y +ℤ matching.up -ℤ pos 1) ∷ [])
  pub above_ahead : IsRun shape (x +ℤ pos 2) (y +ℤ pos 1) window.more window.above_ahead
  pub over_ahead : IsRun matching.matched (x +ℤ matching.right +ℤ pos 1) (y +ℤ matching.up +ℤ pos 1) window.more window.over_ahead
  pub beside_ahead : IsRun matching.matched (x +ℤ matching.right +ℤ pos 2) (y +ℤ matching.up) window.more window.beside_ahead
  pub under_ahead : IsRun matching.matched (x +ℤ matching.right +ℤ pos 2) (y +ℤ matching.up -ℤ pos 1) window.more window.under_ahead
