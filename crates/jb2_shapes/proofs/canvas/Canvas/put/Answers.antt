use Rattle.std.proofs.Common.{ℕ, ◌+◌, ap, ◌∙◌, sym, subst, true, false}
use Rattle.bit_plane.specs.Pixels.{Pixels, area_limit}
use Rattle.jb2_shapes.specs.declared.canvas.Canvas.TheInside.{Inside}
use Rattle.jb2_shapes.specs.Rows.{column_behind, row_behind}
use Rattle.jb2_shapes.specs.Shape.{Sketch, IsUnread}
use Rattle.jb2_shapes.proofs.Placing.{put_keeps, blackened, colour_put}
use Rattle.jb2_shapes.proofs.canvas.Canvas.put.Goals as goal
use Rattle.jb2_shapes.proofs.canvas.Canvas.put.Goals.{then-black, else-black}

pub invariant_of-self : goal.invariant_of-self
invariant_of-self c =
    let sketch : Sketch = record { shape = c.self.inside.shape; number = c.self.inside.number } in
    let new : Sketch = record { shape = c.if-black.self-inside.shape; number = c.if-black.self-inside.number + 1 } in
    let more : Inside → Sketch = λ i. record { shape = i.shape; number = i.number + 1 } in
    let column_next : Inside → ℕ = λ i. column_behind c.self.inside.shape.width i.column in
    let row_next : Inside → ℕ = λ i. row_behind c.self.inside.shape.width i.column i.row in
    let area_of : Inside → ℕ = λ i. i.area in
    let with_shape : Pixels → Sketch = λ s. record { shape = s; number = c.self.inside.number + 1 } in
    let unread : IsUnread sketch = subst IsUnread (sym c.self.view_is) c.requires in
    let column = c.behind-column.ensures.column ∙ ap (λ w. column_behind w c.if-black.self-inside.column) c.width-width.ensures in
    let row = c.behind-column.ensures.row ∙ ap (λ w. row_behind w c.if-black.self-inside.column c.if-black.self-inside.row) c.width-width.ensures in
    elim c.if-black.branch [
      | then-black w ↦
          put_keeps sketch new true c.self.inside.column c.self.inside.row area_limit c.if-black.self-inside.area _ _ unread c.self.invariant.1 c.self.invariant.2
          (ap area_of w.self-inside-is ∙ c.self.invariant.3)
          (ap more w.self-inside-is
          ∙ ap with_shape (blackened sketch c.self.inside.column c.self.inside.row w.set.new.self (c.self.invariant.2 unread) w.set.ensures.value))
          (column ∙ ap column_next w.self-inside-is) (row ∙ ap row_next w.self-inside-is)
      | else-black w ↦
          put_keeps sketch new false c.self.inside.column c.self.inside.row area_limit c.if-black.self-inside.area _ _ unread c.self.invariant.1 c.self.invariant.2
          (ap area_of w.self-inside-is ∙ c.self.invariant.3)
          (ap more w.self-inside-is) (column ∙ ap column_next w.self-inside-is) (row ∙ ap row_next w.self-inside-is)
    ]

pub returns-clause-colour : goal.returns-clause-colour
returns-clause-colour c =
    let sketch : Sketch = record { shape = c.self.inside.shape; number = c.self.inside.number } in
    let unread : IsUnread sketch = subst IsUnread (sym c.self.view_is) c.requires in
    elim c.if-black.branch [
      | then-black w ↦
          colour_put sketch c.args.self.now true c.args.black c.self.inside.column c.self.inside.row c.if-black.self-inside.shape unread c.self.invariant.2 c.self.view_is
          (ap (λ (i : Inside). i.shape) w.self-inside-is
          ∙ blackened sketch c.self.inside.column c.self.inside.row w.set.new.self (c.self.invariant.2 unread) w.set.ensures.value)
          w.if-black.true
      | else-black w ↦
          colour_put sketch c.args.self.now false c.args.black c.self.inside.column c.self.inside.row c.if-black.self-inside.shape unread c.self.invariant.2 c.self.view_is
          (ap (λ (i : Inside). i.shape) w.self-inside-is) w.if-black.false
    ]
