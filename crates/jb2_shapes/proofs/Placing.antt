-- The place of the pixel that is read next, and that reading a pixel leaves the others.
use Rattle.std.proofs.Common.{◌≡◌, ℕ, ◌+◌, ◌-◌, ◌*◌, ◌/◌, ◌%◌, ◌<◌, ◌≤◌, Bool, true, false, ◌&&◌, ◌||◌, eqb, cond, ℤ, pos, negsuc, refl, ap, sym, subst, ◌∙◌, arith, inl, inr}
use Rattle.std.proofs.lemmas.Int.{ints}
use Rattle.std.proofs.lemmas.Bool.{cases_Bool, cases_lt, and_parts, eqb-true, eq-eqb, lt-ltb, le-ltb}
use Rattle.std.proofs.lemmas.Nat.{div_below, mod_below, div-add-mod', div-mul-add, mod-mul-add}
use Rattle.std.proofs.Math.Nat.{mul_comm}
use Rattle.bit_plane.specs.Pixels.{Pixels, is_black, is_black_at, is_place, with_black}
use Rattle.bit_plane.proofs.Lemmas.{set_is_black, wide}
use Rattle.jb2_shapes.specs.Shape.{Sketch, IsUnread, column_of, row_of, with_pixel}
use Rattle.jb2_shapes.specs.Rows.{ComesYet, IsNext, StandsAt, column_behind, row_behind}

-- ---- the colour of one place, written in two ways

-- ---- a pixel that is read leaves the others

pub other_place : (a b : ℤ) (x y : ℕ) → (a ≡ pos x → b ≡ pos y → ⊥) → is_place a b x y ≡ false
other_place (pos a) (pos b) x y other =
    elim (cases_Bool (eqb a x && eqb b y)) [
      | inl same ↦
          let parts = and_parts (eqb a x) (eqb b y) same in
          absurd (other (ap (λ n. pos n) (eqb-true a x parts.0)) (ap (λ n. pos n) (eqb-true b y parts.1)))
      | inr different ↦ different
    ]
other_place (pos a) (negsuc b) x y other = refl
other_place (negsuc a) (pos b) x y other = refl
other_place (negsuc a) (negsuc b) x y other = refl

pub column_within : (sketch : Sketch) → IsUnread sketch → column_of sketch < sketch.shape.width
column_within sketch unread = mod_below sketch.number sketch.shape.width (wide sketch.shape.width sketch.shape.height sketch.number unread)

pub row_within : (sketch : Sketch) → IsUnread sketch → row_of sketch < sketch.shape.height
row_within sketch unread =
    let some = wide sketch.shape.width sketch.shape.height sketch.number unread in
    let below = div_below sketch.number sketch.shape.width sketch.shape.height some (omega (arith, mul_comm sketch.shape.width sketch.shape.height)) in
    omega arith

pub still : (sketch : Sketch) (bit : Bool) (a b : ℤ) → IsUnread sketch → (a ≡ pos (column_of sketch) → b ≡ pos (row_of sketch) → ⊥) →
    is_black (with_pixel sketch bit).shape a b ≡ is_black sketch.shape a b
still sketch true a b unread other =
    set_is_black sketch.shape (column_of sketch) (row_of sketch) a b (column_within sketch unread) (row_within sketch unread)
    ∙ ap (λ t. t || is_black sketch.shape a b) (other_place a b (column_of sketch) (row_of sketch) other)
still sketch false a b unread other = refl

-- ---- the next pixel of a row, and the first of the next row

next_of_rows : (n w : ℕ) → 0 < w → w ≤ n % w + 1 → ((n + 1) % w ≡ 0) × ((n + 1) / w ≡ n / w + 1)
next_of_rows n w some last =
    let at = div-add-mod' n w in
    let below = mod_below n w some in
    let product : (n / w + 1) * w ≡ n / w * w + w = omega arith in
    let sum : n + 1 ≡ (n / w + 1) * w + 0 = omega arith in
    (ap (λ m. m % w) sum ∙ mod-mul-add (n / w + 1) w 0 some, ap (λ m. m / w) sum ∙ div-mul-add (n / w + 1) w 0 some)

next_within : (n w : ℕ) → 0 < w → n % w + 1 < w → ((n + 1) % w ≡ n % w + 1) × ((n + 1) / w ≡ n / w)
next_within n w some within =
    let at = div-add-mod' n w in
    let sum : n + 1 ≡ n / w * w + (n % w + 1) = omega arith in
    (ap (λ m. m % w) sum ∙ mod-mul-add (n / w) w (n % w + 1) within, ap (λ m. m / w) sum ∙ div-mul-add (n / w) w (n % w + 1) within)

pub next_in_row : (n w : ℕ) → 0 < w → 0 < (n + 1) % w → ((n + 1) % w ≡ n % w + 1) × ((n + 1) / w ≡ n / w)
next_in_row n w some more =
    elim (cases_lt (n % w + 1) w) [
      | inl within ↦ next_within n w some within
      | inr last ↦ let first = (next_of_rows n w some last).0 in absurd (omega arith)
    ]

-- ---- where the reading stands

-- nothing was read
pub stands_first : (shape : Pixels) (row : ℕ) → ((x y : ℤ) → is_black shape x y ≡ false) → row ≡ shape.height - 1 →
    StandsAt (record { shape = shape; number = 0 }) 0 row
stands_first shape row white is unread =
    let some = wide shape.width shape.height 0 unread in
    let none : 0 * shape.width + 0 ≡ 0 = omega arith in
    let first : 0 % shape.width ≡ 0 = ap (λ n. n % shape.width) (sym none) ∙ mod-mul-add 0 shape.width 0 some in
    let top : 0 / shape.width ≡ 0 = ap (λ n. n / shape.width) (sym none) ∙ div-mul-add 0 shape.width 0 some in
    record { column_is = sym first; row_is = omega arith; white = λ x y p. white (pos x) (pos y) }

same_is : (x y : ℕ) → is_place (pos x) (pos y) x y ≡ true
same_is x y = ap (λ t. t && eqb y y) (eq-eqb x x refl) ∙ eq-eqb y y refl

-- the colour that was read
pub colour_is : (sketch : Sketch) (bit : Bool) (column row : ℕ) → IsUnread sketch → IsNext sketch column row →
    is_black (with_pixel sketch bit).shape (pos (column_of sketch)) (pos (row_of sketch)) ≡ bit
colour_is sketch true column row unread at =
    set_is_black sketch.shape (column_of sketch) (row_of sketch) (pos (column_of sketch)) (pos (row_of sketch)) (column_within sketch unread) (row_within sketch unread)
    ∙ ap (λ t. t || is_black sketch.shape (pos (column_of sketch)) (pos (row_of sketch))) (same_is (column_of sketch) (row_of sketch))
colour_is sketch false column row unread at =
    at.white (column_of sketch) (row_of sketch) (inr (sym at.row_is, let c = at.column_is in omega arith))

-- what comes behind the next place comes yet, and isn't that place
pub record LaterYet (column row x y : ℕ) : Type 0 where
  pub yet : ComesYet column row x y
  pub other : x ≡ column → y ≡ row → ⊥

stays_white : (sketch : Sketch) (bit : Bool) (column row x y : ℕ) → IsUnread sketch → IsNext sketch column row → LaterYet column row x y →
    is_black_at (with_pixel sketch bit).shape x y ≡ false
stays_white sketch bit column row x y unread at later =
    still sketch bit (pos x) (pos y) unread (λ e f.
    later.other (let c = at.column_is in let g : x ≡ column_of sketch = omega (arith, ints, e) in omega arith)
    (let r = at.row_is in let g : y ≡ row_of sketch = omega (arith, ints, f) in omega arith))
    ∙ at.white x y later.yet

later_in_row : (column row x y : ℕ) → ComesYet (column + 1) row x y → LaterYet column row x y
later_in_row column row x y (inl below) = record { yet = inl below; other = λ e f. omega arith }
later_in_row column row x y (inr right) =
    let same = right.0 in
    let more = right.1 in
    record { yet = inr (same, omega arith); other = λ e f. omega arith }

later_in_rows : (column row x y : ℕ) → 0 < row → ComesYet 0 (row - 1) x y → LaterYet column row x y
later_in_rows column row x y some (inl below) = record { yet = inl (omega arith); other = λ e f. omega arith }
later_in_rows column row x y some (inr right) =
    let same = right.0 in
    record { yet = inl (omega arith); other = λ e f. omega arith }

column_after : (sketch : Sketch) (bit : Bool) → column_of (with_pixel sketch bit) ≡ (sketch.number + 1) % sketch.shape.width
column_after sketch true = refl
column_after sketch false = refl

row_after : (sketch : Sketch) (bit : Bool) → row_of (with_pixel sketch bit) ≡ sketch.shape.height - 1 - (sketch.number + 1) / sketch.shape.width
row_after sketch true = refl
row_after sketch false = refl

unread_after : (sketch : Sketch) (bit : Bool) → IsUnread (with_pixel sketch bit) → sketch.number + 1 < sketch.shape.width * sketch.shape.height
unread_after sketch true unread = unread
unread_after sketch false unread = unread

-- one pixel more was read
pub stands_on : (sketch : Sketch) (bit : Bool) (column row : ℕ) → IsUnread sketch → IsNext sketch column row →
    StandsAt (with_pixel sketch bit) (column_behind sketch.shape.width column) (row_behind sketch.shape.width column row)
stands_on sketch bit column row unread at again =
    let n = sketch.number in
    let w = sketch.shape.width in
    let h = sketch.shape.height in
    let some = wide w h n unread in
    let more = unread_after sketch bit again in
    let c = at.column_is in
    let r = at.row_is in
    let is_column = column_after sketch bit in
    let is_row = row_after sketch bit in
    elim (cases_lt (n % w + 1) w) [
      | inl within ↦
          let next = next_within n w some within in
          let first = next.0 in
          let second = next.1 in
          let less : column + 1 < w = omega arith in
          let column_same : column_behind w column ≡ column + 1 = ap (λ t. cond t (column + 1) 0) (lt-ltb (column + 1) w less) in
          let row_same : row_behind w column row ≡ row = ap (λ t. cond t row (row - 1)) (lt-ltb (column + 1) w less) in
          record {
            column_is = omega arith;
            row_is = omega arith;
            white = λ x y p.
                stays_white sketch bit column row x y unread at
                (later_in_row column row x y (subst (λ r. ComesYet (column + 1) r x y) row_same (subst (λ c. ComesYet c (row_behind w column row) x y) column_same p)));
          }
      | inr last ↦
          let next = next_of_rows n w some last in
          let first = next.0 in
          let second = next.1 in
          let not_less : w ≤ column + 1 = omega arith in
          let column_same : column_behind w column ≡ 0 = ap (λ t. cond t (column + 1) 0) (le-ltb (column + 1) w not_less) in
          let row_same : row_behind w column row ≡ row - 1 = ap (λ t. cond t row (row - 1)) (le-ltb (column + 1) w not_less) in
          let below = div_below (n + 1) w h some (omega (arith, mul_comm w h)) in
          let above : 0 < row = omega arith in
          record {
            column_is = omega arith;
            row_is = omega arith;
            white = λ x y p.
                stays_white sketch bit column row x y unread at
                (later_in_rows column row x y above (subst (λ r. ComesYet 0 r x y) row_same (subst (λ c. ComesYet c (row_behind w column row) x y) column_same p)));
          }
    ]

-- ---- what the shape that is read keeps

-- what is kept of a shape of this area, of which so much was read
abbrev Keeps : ℕ → ℕ → Sketch → ℕ → ℕ → Type 0
Keeps limit area sketch column row =
    (sketch.number ≤ sketch.shape.width * sketch.shape.height) × (sketch.shape.width * sketch.shape.height ≤ limit) × StandsAt sketch column row
    × (area ≡ sketch.shape.width * sketch.shape.height)

put_of : (sketch : Sketch) (bit : Bool) (column row limit area : ℕ) → IsUnread sketch → sketch.shape.width * sketch.shape.height ≤ limit →
    StandsAt sketch column row → area ≡ sketch.shape.width * sketch.shape.height →
    Keeps limit area (with_pixel sketch bit) (column_behind sketch.shape.width column) (row_behind sketch.shape.width column row)
put_of sketch true column row limit area unread fits at whole = (omega arith, fits, stands_on sketch true column row unread (at unread), whole)
put_of sketch false column row limit area unread fits at whole = (omega arith, fits, stands_on sketch false column row unread (at unread), whole)

pub put_keeps : (sketch new : Sketch) (bit : Bool) (column row limit area next_column next_row : ℕ) → IsUnread sketch →
    sketch.shape.width * sketch.shape.height ≤ limit → StandsAt sketch column row → area ≡ sketch.shape.width * sketch.shape.height → new ≡ with_pixel sketch bit →
    next_column ≡ column_behind sketch.shape.width column → next_row ≡ row_behind sketch.shape.width column row →
    (new.number ≤ new.shape.width * new.shape.height) × (new.shape.width * new.shape.height ≤ limit) × StandsAt new next_column next_row
    × (area ≡ new.shape.width * new.shape.height)
put_keeps sketch new bit column row limit area next_column next_row unread fits at whole is c r =
    subst (λ s. Keeps limit area s next_column next_row) (sym is)
    (subst (λ a. Keeps limit area (with_pixel sketch bit) a next_row) (sym c)
    (subst (λ b. Keeps limit area (with_pixel sketch bit) (column_behind sketch.shape.width column) b) (sym r)
    (put_of sketch bit column row limit area unread fits at whole)))

pub blackened : (sketch : Sketch) (column row : ℕ) (shape : Pixels) → IsNext sketch column row → shape ≡ with_black sketch.shape column row →
    shape ≡ (with_pixel sketch true).shape
blackened sketch column row shape at is =
    is ∙ ap (λ a. with_black sketch.shape a row) at.column_is ∙ ap (λ b. with_black sketch.shape (column_of sketch) b) at.row_is

pub colour_put : (sketch now : Sketch) (bit black : Bool) (column row : ℕ) (shape : Pixels) → IsUnread sketch → StandsAt sketch column row → sketch ≡ now →
    shape ≡ (with_pixel sketch bit).shape → black ≡ bit → is_black shape (pos (column_of now)) (pos (row_of now)) ≡ black
colour_put sketch now bit black column row shape unread at same is colour =
    ap (λ (s : Sketch). is_black shape (pos (column_of s)) (pos (row_of s))) (sym same)
    ∙ ap (λ p. is_black p (pos (column_of sketch)) (pos (row_of sketch))) is
    ∙ colour_is sketch bit column row unread (at unread) ∙ sym colour

pub more_than_none : (n m : ℕ) → n ≡ m → (n ≡ 0 → ⊥) → 0 < m
more_than_none n m same some =
    elim (cases_lt 0 m) [
      | inl more ↦ more
      | inr none ↦ absurd (some (omega arith))
    ]
