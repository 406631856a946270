-- A shape that is coded, pixel after pixel.
use Rattle.std.proofs.Common.{◌≡◌, ◌<◌, ◌≤◌, ◌+◌, ◌-◌, ◌*◌, ◌^◌, ℕ, suc, ℤ, pos, negsuc, ◌+ℤ◌, ◌-ℤ◌, Bool, true}
use Rattle.std.proofs.Common.{false, List, [], ◌∷◌, ◌++◌, length, take, get_or, append_assoc, length-take, add-one, refl, sym, ap, subst, ◌∙◌, arith}
use Rattle.std.proofs.lemmas.List.{append-nil}
use Rattle.std.proofs.lemmas.Int.{ints}
use Rattle.std.proofs.Math.Nat.{pow-suc}
use Rattle.std.proofs.Math.Seq.{take-suc}
use Rattle.std.proofs.Math.Pow.{pow_mono}
use Rattle.bit_plane.specs.Bits.{digit_of}
use Rattle.bit_plane.specs.Pixels.{Pixels, is_black, blank}
use Rattle.jb2_shapes.specs.Numbers.{number_from, number_of, number_limit, IsNumber}
use Rattle.jb2_shapes.specs.Shape.{Sketch, column_of, row_of, with_pixel, empty_sketch, direct_context}
use Rattle.jb2_shapes.specs.Refined.{refined_context}
use Rattle.jb2_writer.specs.declared.coding.Coding.{Coding}
use Rattle.jb2_writer.specs.Coded.{Coded, Bit, Pixel, pixel_at, pixels_coded, shape_coded}
use Rattle.jb2_writer.specs.Coding.{IsSound, Adds}
use Rattle.jb2_writer.specs.Pixels.{HasDrawn}
use Rattle.jb2_writer.proofs.Adding.{adds_none, adds_join}

-- ---- numbers of contexts are below their limit

one_digit : (colour : Bool) (number limit : ℕ) → number < limit → 2 * number + digit_of colour < 2 * limit
one_digit true number limit below = omega (arith, below)
one_digit false number limit below = omega (arith, below)

below_from : (colours : List Bool) (number limit : ℕ) → number < limit → number_from number colours < limit * 2 ^ length colours
below_from [] number limit below = omega (arith, below)
below_from (colour ∷ colours) number limit below =
    let first : 2 * number + digit_of colour < 2 * limit = one_digit colour number limit below in
    let later = below_from colours (2 * number + digit_of colour) (2 * limit) first in
    let power : 2 ^ suc (length colours) ≡ 2 ^ length colours * 2 = pow-suc 2 (length colours) in
    let twice : limit * (2 ^ length colours * 2) ≡ 2 * limit * 2 ^ length colours = omega arith in
    let product : limit * 2 ^ suc (length colours) ≡ 2 * limit * 2 ^ length colours = ap (λ (n : ℕ). limit * n) power ∙ twice in
    subst (λ (n : ℕ). number_from (2 * number + digit_of colour) colours < n) (sym product) later

pub is_number : (colours : List Bool) (number : ℕ) → number_of colours ≡ number → length colours ≤ 11 → IsNumber number
unfolding number_limit
is_number colours number is few =
    let below = below_from colours 1 2 (omega arith) in
    let most : 2 ^ length colours ≤ 2 ^ 11 = pow_mono few in
    record { colours = colours; is = is; within = omega (arith, below, most, is) }

pub few_number : (colours : List Bool) (index number : ℕ) → number_of (take index colours) ≡ number → length colours ≤ 11 → number < 0x1_0000
few_number colours index number is few =
    let below = below_from (take index colours) 1 2 (omega arith) in
    let fewer : length (take index colours) ≤ 11 = omega (arith, length-take index colours, few) in
    let most : 2 ^ length (take index colours) ≤ 2 ^ 11 = pow_mono fewer in
    omega (arith, below, most, is)

same_cons : {a b : Bool} {as' bs : List Bool} → a ≡ b → as' ≡ bs → a ∷ as' ≡ b ∷ bs
same_cons {a} {b} {as'} {bs} e f = ap (λ (x : Bool). x ∷ as') e ∙ ap (λ (xs : List Bool). b ∷ xs) f

-- ---- colour after colour

further : (colours : List Bool) (number : ℕ) (colour : Bool) → number_from number (colours ++ colour ∷ []) ≡ 2 * number_from number colours + digit_of colour
further [] number colour = refl
further (first ∷ colours) number colour = further colours (2 * number + digit_of first) colour

pub colour_added : (colours : List Bool) (index number next : ℕ) (colour : Bool) → index < length colours → colour ≡ get_or colours index false →
    number_of (take index colours) ≡ number → next ≡ 2 * number + digit_of colour → number_of (take (index + 1) colours) ≡ next
colour_added colours index number next colour within c is e =
    let last : take (suc index) colours ≡ take index colours ++ (get_or colours index false ∷ []) = take-suc colours index false within in
    ap (λ (n : ℕ). number_of (take n colours)) (add-one index)
    ∙ (ap number_of last
    ∙ (further (take index colours) 1 (get_or colours index false)
    ∙ (ap (λ (n : ℕ). 2 * n + digit_of (get_or colours index false)) is
    ∙ (ap (λ (p : Bool). 2 * number + digit_of p) (sym c) ∙ sym e))))

pub at_place : (plane : Pixels) (a b x y : ℤ) (colour : Bool) → colour ≡ is_black plane a b → a ≡ x → b ≡ y → colour ≡ is_black plane x y
at_place plane a b x y colour is e f = is ∙ (ap (λ (k : ℤ). is_black plane k b) e ∙ ap (λ (k : ℤ). is_black plane x k) f)

none : (z : ℤ) → z +ℤ pos 0 ≡ z
none z = omega (arith, ints)

-- ---- the colours that name contexts

module _ (sketch : Pixels) (x y : ℕ) where
  abbrev Is : Bool → ℤ → ℤ → Type 0
  Is colour right up = colour ≡ is_black sketch (pos x +ℤ right) (pos y +ℤ up)

  placed : (colour : Bool) (right up a b : ℤ) → Is colour right up → pos x +ℤ right ≡ a → pos y +ℤ up ≡ b → colour ≡ is_black sketch a b
  placed colour right up a b is e f = at_place sketch (pos x +ℤ right) (pos y +ℤ up) a b colour is e f

  pub direct_colours : (a b c d e f g h i j : Bool) → Is a (negsuc 0) (pos 2) → Is b (pos 0) (pos 2) → Is c (pos 1) (pos 2) →
      Is d (negsuc 1) (pos 1) → Is e (negsuc 0) (pos 1) → Is f (pos 0) (pos 1) → Is g (pos 1) (pos 1) → Is h (pos 2) (pos 1) →
      Is i (negsuc 1) (pos 0) → Is j (negsuc 0) (pos 0) →
      a ∷ b ∷ c ∷ d ∷ e ∷ f ∷ g ∷ h ∷ i ∷ j ∷ [] ≡ direct_context sketch (pos x) (pos y)
  direct_colours a b c d e f g h i j p q r s t u v w m n =
      let q' = placed b (pos 0) (pos 2) (pos x) (pos y +ℤ pos 2) q (none (pos x)) refl in
      let u' = placed f (pos 0) (pos 1) (pos x) (pos y +ℤ pos 1) u (none (pos x)) refl in
      let m' = placed i (negsuc 1) (pos 0) (pos x -ℤ pos 2) (pos y) m refl (none (pos y)) in
      let n' = placed j (negsuc 0) (pos 0) (pos x -ℤ pos 1) (pos y) n refl (none (pos y)) in
      same_cons p (same_cons q' (same_cons r (same_cons s (same_cons t (same_cons u' (same_cons v (same_cons w (same_cons m' (same_cons n' refl)))))))))

  module _ (matched : Pixels) (right up : ℤ) where
    abbrev IsBeside : Bool → ℤ → ℤ → Type 0
    IsBeside colour more higher = colour ≡ is_black matched (pos x +ℤ right +ℤ more) (pos y +ℤ up +ℤ higher)

    matched_at : (colour : Bool) (more higher a b : ℤ) → IsBeside colour more higher → pos x +ℤ right +ℤ more ≡ a → pos y +ℤ up +ℤ higher ≡ b →
        colour ≡ is_black matched a b
    matched_at colour more higher a b is e f = at_place matched (pos x +ℤ right +ℤ more) (pos y +ℤ up +ℤ higher) a b colour is e f

    pub refined_colours : (a b c d e f g h i j k : Bool) → Is a (negsuc 0) (pos 1) → Is b (pos 0) (pos 1) → Is c (pos 1) (pos 1) → Is d (negsuc 0) (pos 0) →
        IsBeside e (pos 0) (pos 1) → IsBeside f (negsuc 0) (pos 0) → IsBeside g (pos 0) (pos 0) → IsBeside h (pos 1) (pos 0) →
        IsBeside i (negsuc 0) (negsuc 0) → IsBeside j (pos 0) (negsuc 0) → IsBeside k (pos 1) (negsuc 0) →
        a ∷ b ∷ c ∷ d ∷ e ∷ f ∷ g ∷ h ∷ i ∷ j ∷ k ∷ [] ≡ refined_context matched right up sketch (pos x) (pos y)
    refined_colours a b c d e f g h i j k p q r s t u v w m n o =
        let mx : ℤ = pos x +ℤ right in
        let my : ℤ = pos y +ℤ up in
        let q' = placed b (pos 0) (pos 1) (pos x) (pos y +ℤ pos 1) q (none (pos x)) refl in
        let s' = placed d (negsuc 0) (pos 0) (pos x -ℤ pos 1) (pos y) s refl (none (pos y)) in
        let t' = matched_at e (pos 0) (pos 1) mx (my +ℤ pos 1) t (none mx) refl in
        let u' = matched_at f (negsuc 0) (pos 0) (mx -ℤ pos 1) my u refl (none my) in
        let v' = matched_at g (pos 0) (pos 0) mx my v (none mx) (none my) in
        let w' = matched_at h (pos 1) (pos 0) (mx +ℤ pos 1) my w refl (none my) in
        let m' = matched_at i (negsuc 0) (negsuc 0) (mx -ℤ pos 1) (my -ℤ pos 1) m refl refl in
        let n' = matched_at j (pos 0) (negsuc 0) mx (my -ℤ pos 1) n (none mx) refl in
        let o' = matched_at k (pos 1) (negsuc 0) (mx +ℤ pos 1) (my -ℤ pos 1) o refl refl in
        same_cons p (same_cons q' (same_cons r (same_cons s'
        (same_cons t' (same_cons u' (same_cons v' (same_cons w' (same_cons m' (same_cons n' (same_cons o' refl))))))))))

-- ---- pixel after pixel

with_same_width : (sketch : Sketch) (black : Bool) → (with_pixel sketch black).shape.width ≡ sketch.shape.width
with_same_width sketch true = refl
with_same_width sketch false = refl

with_same_height : (sketch : Sketch) (black : Bool) → (with_pixel sketch black).shape.height ≡ sketch.shape.height
with_same_height sketch true = refl
with_same_height sketch false = refl

with_one_more : (sketch : Sketch) (black : Bool) → (with_pixel sketch black).number ≡ sketch.number + 1
with_one_more sketch true = refl
with_one_more sketch false = refl

pub in_area : (number width height w h : ℕ) → number < width * height → width ≡ w → height ≡ h → number < w * h
in_area number width height w h within e f =
    let same : width * height ≡ w * h = ap (λ (k : ℕ). k * height) e ∙ ap (λ (k : ℕ). w * k) f in
    omega (arith, within, same)

pub moved_number : (matched sketch : Pixels) (a b x y p q : ℤ) (number : ℕ) → number_of (refined_context matched a b sketch p q) ≡ number → a ≡ x → b ≡ y →
    number_of (refined_context matched x y sketch p q) ≡ number
moved_number matched sketch a b x y p q number is e f =
    ap (λ (k : ℤ). number_of (refined_context matched k y sketch p q)) (sym e)
    ∙ (ap (λ (k : ℤ). number_of (refined_context matched a k sketch p q)) (sym f) ∙ is)

module _ (context : Pixels → ℤ → ℤ → List Bool) (shape : Pixels) where
  pub none_drawn : (coding : Coding) → IsSound coding → HasDrawn context shape coding coding (empty_sketch shape.width shape.height)
  none_drawn coding sound =
      let all : shape.width * shape.height - 0 ≡ shape.width * shape.height = omega arith in
      record {
        bits = [];
        adds = adds_none coding sound;
        rest = ap (λ (n : ℕ). pixels_coded context shape n (empty_sketch shape.width shape.height)) all;
        width = refl;
        height = refl;
      }

  pub first_drawn : (coding : Coding) (width height : ℕ) (sketch : Pixels) → IsSound coding → sketch ≡ blank width height → width ≡ shape.width →
      height ≡ shape.height → HasDrawn context shape coding coding (record { shape = sketch; number = 0 })
  first_drawn coding width height sketch sound made w h =
      let same : sketch ≡ blank shape.width shape.height =
      made ∙ (ap (λ (k : ℕ). blank k height) w ∙ ap (λ (k : ℕ). blank shape.width k) h) in
      subst (λ (pixels : Pixels). HasDrawn context shape coding coding (record { shape = pixels; number = 0 })) (sym same) (none_drawn coding sound)

  pub one_drawn : (old middle new : Coding) (sketch : Sketch) → HasDrawn context shape old middle sketch → sketch.number < shape.width * shape.height →
      Adds (Bit (Pixel (context sketch.shape (pos (column_of sketch)) (pos (row_of sketch)))) (pixel_at shape sketch) ∷ []) middle new →
      HasDrawn context shape old new (with_pixel sketch (pixel_at shape sketch))
  one_drawn old middle new sketch drawn unread adds =
      let bit : Coded = Bit (Pixel (context sketch.shape (pos (column_of sketch)) (pos (row_of sketch)))) (pixel_at shape sketch) in
      let next : Sketch = with_pixel sketch (pixel_at shape sketch) in
      let left : shape.width * shape.height - sketch.number ≡ suc (shape.width * shape.height - (sketch.number + 1)) = omega (arith, unread) in
      let fewer : shape.width * shape.height - next.number ≡ shape.width * shape.height - (sketch.number + 1) =
      ap (λ (n : ℕ). shape.width * shape.height - n) (with_one_more sketch (pixel_at shape sketch)) in
      record {
        bits = drawn.bits ++ bit ∷ [];
        adds = adds_join drawn.bits (bit ∷ []) old middle new drawn.adds adds;
        rest =
            append_assoc drawn.bits (bit ∷ []) (pixels_coded context shape (shape.width * shape.height - next.number) next)
            ∙ (ap (λ (n : ℕ). drawn.bits ++ bit ∷ pixels_coded context shape n next) fewer
            ∙ (ap (λ (n : ℕ). drawn.bits ++ pixels_coded context shape n sketch) (sym left)
            ∙ drawn.rest));
        width = with_same_width sketch (pixel_at shape sketch) ∙ drawn.width;
        height = with_same_height sketch (pixel_at shape sketch) ∙ drawn.height;
      }

  -- the code's next pixel is the sketch's
  pub drawn_on : (old middle new : Coding) (sketch next : Sketch) (x y number : ℕ) (black : Bool) → HasDrawn context shape old middle sketch →
      sketch.number < shape.width * shape.height → x ≡ column_of sketch → y ≡ row_of sketch → black ≡ is_black shape (pos x +ℤ pos 0) (pos y +ℤ pos 0) →
      ((colours : List Bool) → number_of colours ≡ number → Adds (Bit (Pixel colours) black ∷ []) middle new) →
      number_of (context sketch.shape (pos x) (pos y)) ≡ number → next ≡ with_pixel sketch black → HasDrawn context shape old new next
  drawn_on old middle new sketch next x y number black drawn unread column row colour adds is e =
      let there : List Bool = context sketch.shape (pos (column_of sketch)) (pos (row_of sketch)) in
      let left : pos x ≡ pos (column_of sketch) = ap (λ (k : ℕ). pos k) column in
      let low : pos y ≡ pos (row_of sketch) = ap (λ (k : ℕ). pos k) row in
      let same : black ≡ pixel_at shape sketch =
      at_place shape (pos x +ℤ pos 0) (pos y +ℤ pos 0) (pos (column_of sketch)) (pos (row_of sketch)) black colour (none (pos x) ∙ left) (none (pos y) ∙ low) in
      let named : number_of there ≡ number =
      ap (λ (k : ℤ). number_of (context sketch.shape k (pos (row_of sketch)))) (sym left)
      ∙ (ap (λ (k : ℤ). number_of (context sketch.shape (pos x) k)) (sym low) ∙ is) in
      let coded = subst (λ (bit : Bool). Adds (Bit (Pixel there) bit ∷ []) middle new) same (adds there named) in
      let last : with_pixel sketch (pixel_at shape sketch) ≡ next = ap (λ (bit : Bool). with_pixel sketch bit) (sym same) ∙ sym e in
      subst (λ (at : Sketch). HasDrawn context shape old new at) last (one_drawn old middle new sketch drawn unread coded)

  pub all_drawn : (old new : Coding) (sketch : Sketch) → HasDrawn context shape old new sketch → sketch.number ≡ shape.width * shape.height →
      Adds (shape_coded context shape) old new
  all_drawn old new sketch drawn whole =
      let none : shape.width * shape.height - sketch.number ≡ 0 = omega (arith, whole) in
      let rest : drawn.bits ++ [] ≡ shape_coded context shape =
      ap (λ (n : ℕ). drawn.bits ++ pixels_coded context shape n sketch) (sym none) ∙ drawn.rest in
      subst (λ (bits : List Coded). Adds bits old new) (sym (append-nil drawn.bits) ∙ rest) drawn.adds
