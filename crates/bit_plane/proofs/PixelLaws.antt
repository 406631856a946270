-- What is black in planes that are made, and laws of painting.
use Rattle.std.proofs.Common.{◌≡◌, ℕ, ◌+◌, ◌*◌, ◌/◌, ◌%◌, ◌<◌, inl, inr, Bool, true, false, ◌&&◌, ◌||◌, eqb, ltb, List, length, get_or, ℤ, pos, negsuc, ◌-ℤ◌, arith, refl, ap, sym, ◌∙◌}
use Rattle.std.proofs.Math.Nat.{mul_comm}
use Rattle.std.proofs.lemmas.Bool.{cases_Bool, and_parts, ltb-true, lt-ltb, eqb-true, and_from, or_left, both_ways}
use Rattle.std.proofs.lemmas.Nat.{div_below, mod_below, div-add-mod'}
use Rattle.std.proofs.lemmas.List.{same_lists, get_or_default}
use Rattle.bit_plane.specs.Pixels.{Pixels, IsPlane, is_inside, is_black, is_black_at, is_place, pixels_where, blank, with_black, painted}
use Rattle.bit_plane.proofs.PixelLemmas.{same_where, black_where, wide}
use Rattle.bit_plane.proofs.PaintLemmas.{and_false, or_false}

-- ---- made by a test

black_where_at : (w h : ℕ) (f : ℕ → ℕ → Bool) (x y : ℕ) → is_black_at (pixels_where w h f) x y ≡ ((ltb x w && ltb y h) && f x y)
black_where_at w h f x y =
    elim (cases_Bool (ltb x w && ltb y h)) [
      | inl inside ↦
          let parts = and_parts (ltb x w) (ltb y h) inside in
          black_where w h f x y (ltb-true x w parts.0) (ltb-true y h parts.1) ∙ sym (ap (λ t. t && f x y) inside)
      | inr outside ↦
          ap (λ t. t && get_or (pixels_where w h f).black (y * w + x) false) outside ∙ sym (ap (λ t. t && f x y) outside)
    ]

pub blank_is : (w h : ℕ) (x y : ℤ) → is_black (blank w h) x y ≡ false
blank_is w h (pos x) (pos y) = black_where_at w h (λ x y. false) x y ∙ and_false (ltb x w && ltb y h) false refl
blank_is w h (pos x) (negsuc y) = refl
blank_is w h (negsuc x) (pos y) = refl
blank_is w h (negsuc x) (negsuc y) = refl

set_where : (w h x y a b : ℕ) (t : Bool) → x < w → y < h →
    ((ltb a w && ltb b h) && ((eqb a x && eqb b y) || ((ltb a w && ltb b h) && t))) ≡ ((eqb a x && eqb b y) || ((ltb a w && ltb b h) && t))
set_where w h x y a b t p q =
    elim (cases_Bool (ltb a w && ltb b h)) [
      | inl inside ↦ ap (λ i. i && ((eqb a x && eqb b y) || ((ltb a w && ltb b h) && t))) inside
      | inr outside ↦
          let other : (eqb a x && eqb b y) ≡ false =
          elim (cases_Bool (eqb a x && eqb b y)) [
            | inl same ↦
                let parts = and_parts (eqb a x) (eqb b y) same in
                let column = eqb-true a x parts.0 in
                let row = eqb-true b y parts.1 in
                absurd (both_ways (ltb a w && ltb b h) outside (and_from (ltb a w) (ltb b h) (lt-ltb a w (omega arith)) (lt-ltb b h (omega arith))))
            | inr different ↦ different
          ] in
          ap (λ i. i && ((eqb a x && eqb b y) || ((ltb a w && ltb b h) && t))) outside
          ∙ sym (ap (λ s. s || ((ltb a w && ltb b h) && t)) other ∙ ap (λ i. i && t) outside)
    ]

pub set_is_black : (plane : Pixels) (x y : ℕ) (a b : ℤ) → x < plane.width → y < plane.height →
    is_black (with_black plane x y) a b ≡ (is_place a b x y || is_black plane a b)
set_is_black plane x y (pos a) (pos b) p q =
    black_where_at plane.width plane.height (λ a b. (eqb a x && eqb b y) || is_black_at plane a b) a b
    ∙ set_where plane.width plane.height x y a b (get_or plane.black (b * plane.width + a) false) p q
set_is_black plane x y (pos a) (negsuc b) p q = refl
set_is_black plane x y (negsuc a) (pos b) p q = refl
set_is_black plane x y (negsuc a) (negsuc b) p q = refl

distribute : (i l s : Bool) → (i && ((i && l) || s)) ≡ ((i && l) || (i && s))
distribute true l s = refl
distribute false l s = refl

pub painted_is_black : (plane shape : Pixels) (left bottom x y : ℤ) →
    is_black (painted plane shape left bottom) x y ≡ (is_black plane x y || (is_inside plane x y && is_black shape (x -ℤ left) (y -ℤ bottom)))
painted_is_black plane shape left bottom (pos x) (pos y) =
    black_where_at plane.width plane.height (λ x y. is_black_at plane x y || is_black shape (pos x -ℤ left) (pos y -ℤ bottom)) x y
    ∙ distribute (ltb x plane.width && ltb y plane.height) (get_or plane.black (y * plane.width + x) false) (is_black shape (pos x -ℤ left) (pos y -ℤ bottom))
painted_is_black plane shape left bottom (pos x) (negsuc y) = refl
painted_is_black plane shape left bottom (negsuc x) (pos y) = refl
painted_is_black plane shape left bottom (negsuc x) (negsuc y) = refl

-- ---- one plane

abbrev pixels : ℕ → ℕ → List Bool → Pixels
pixels w h black = record { width = w; height = h; black = black }

black_inside : (plane : Pixels) (x y : ℕ) → x < plane.width → y < plane.height → is_black_at plane x y ≡ get_or plane.black (y * plane.width + x) false
black_inside plane x y p q =
    ap (λ t. t && get_or plane.black (y * plane.width + x) false) (and_from (ltb x plane.width) (ltb y plane.height) (lt-ltb x plane.width p) (lt-ltb y plane.height q))

same_list : (w h : ℕ) (xs ys : List Bool) → length xs ≡ w * h → length ys ≡ w * h →
    ((x y : ℕ) → x < w → y < h → get_or xs (y * w + x) false ≡ get_or ys (y * w + x) false) → xs ≡ ys
same_list w h xs ys p q same = same_lists xs ys (p ∙ sym q) (λ k d r.
    let within : k < w * h = omega arith in
    let some = wide w h k within in
    let at = div-add-mod' k w in
    get_or_default xs k d false r
    ∙ ap (λ n. get_or xs n false) (sym at)
    ∙ same (k % w) (k / w) (mod_below k w some) (div_below k w h some (omega (arith, mul_comm w h)))
    ∙ ap (λ n. get_or ys n false) at
    ∙ sym (get_or_default ys k d false (omega arith)))

made : (w h : ℕ) (black : List Bool) (w' h' : ℕ) (black' : List Bool) → w ≡ w' → h ≡ h' → black ≡ black' → pixels w h black ≡ pixels w' h' black'
made w h black w' h' black' p q r = cc

pub same_plane : (plane other : Pixels) → IsPlane plane → IsPlane other → plane.width ≡ other.width → plane.height ≡ other.height →
    ((x y : ℤ) → is_black plane x y ≡ is_black other x y) → plane ≡ other
same_plane plane other whole other_whole wide high same =
    let area : other.width * other.height ≡ plane.width * plane.height = ap (λ n. n * other.height) (sym wide) ∙ ap (λ n. plane.width * n) (sym high) in
    let black : plane.black ≡ other.black = same_list plane.width plane.height plane.black other.black whole (other_whole ∙ area) (λ x y p q.
    sym (black_inside plane x y p q) ∙ same (pos x) (pos y) ∙ black_inside other x y (omega arith) (omega arith) ∙ ap (λ n. get_or other.black (y * n + x) false) (sym wide)) in
    made plane.width plane.height plane.black other.width other.height other.black wide high black

-- ---- painting

or_twice : (s t : Bool) → ((s || t) || t) ≡ (s || t)
or_twice true t = refl
or_twice false true = refl
or_twice false false = refl

or_order : (s t u : Bool) → ((s || t) || u) ≡ ((s || u) || t)
or_order true t u = refl
or_order false true true = refl
or_order false true false = refl
or_order false false true = refl
or_order false false false = refl

-- the shape's pixel that comes to stand at a place
abbrev moved : Pixels → ℤ → ℤ → ℕ → ℕ → Bool
moved shape left bottom x y = is_black shape (pos x -ℤ left) (pos y -ℤ bottom)

painted_within : (plane shape : Pixels) (left bottom : ℤ) (x y : ℕ) → x < plane.width → y < plane.height →
    is_black_at (painted plane shape left bottom) x y ≡ (is_black_at plane x y || moved shape left bottom x y)
painted_within plane shape left bottom x y p q = black_where plane.width plane.height (λ x y. is_black_at plane x y || moved shape left bottom x y) x y p q

pub painted_twice : (plane shape : Pixels) (left bottom : ℤ) → painted (painted plane shape left bottom) shape left bottom ≡ painted plane shape left bottom
painted_twice plane shape left bottom = same_where plane.width plane.height _ _ (λ x y p q.
    ap (λ t. t || moved shape left bottom x y) (painted_within plane shape left bottom x y p q) ∙ or_twice (is_black_at plane x y) (moved shape left bottom x y))

pub painted_any_order : (plane shape other : Pixels) (left bottom right top : ℤ) →
    painted (painted plane shape left bottom) other right top ≡ painted (painted plane other right top) shape left bottom
painted_any_order plane shape other left bottom right top = same_where plane.width plane.height _ _ (λ x y p q.
    ap (λ t. t || moved other right top x y) (painted_within plane shape left bottom x y p q)
    ∙ or_order (is_black_at plane x y) (moved shape left bottom x y) (moved other right top x y)
    ∙ sym (ap (λ t. t || moved shape left bottom x y) (painted_within plane other right top x y p q)))

pub painted_nothing : (plane shape : Pixels) (left bottom x y : ℤ) → ((a b : ℤ) → is_black shape a b ≡ false) →
    is_black (painted plane shape left bottom) x y ≡ is_black plane x y
painted_nothing plane shape left bottom x y white =
    painted_is_black plane shape left bottom x y
    ∙ or_false (is_black plane x y) (is_inside plane x y && is_black shape (x -ℤ left) (y -ℤ bottom))
    (and_false (is_inside plane x y) (is_black shape (x -ℤ left) (y -ℤ bottom)) (white (x -ℤ left) (y -ℤ bottom)))

pub painted_stays : (plane shape : Pixels) (left bottom x y : ℤ) → is_black plane x y ≡ true → is_black (painted plane shape left bottom) x y ≡ true
painted_stays plane shape left bottom x y black =
    painted_is_black plane shape left bottom x y ∙ or_left (is_black plane x y) (is_inside plane x y && is_black shape (x -ℤ left) (y -ℤ bottom)) black

-- ---- the same of what a call leaves

pub blank_pixels : (plane : Pixels) (w h : ℕ) → plane ≡ blank w h → (x y : ℤ) → is_black plane x y ≡ false
blank_pixels plane w h e x y = ap (λ made. is_black made x y) e ∙ blank_is w h x y

pub set_pixels : (old new : Pixels) (x y : ℕ) → x < old.width → y < old.height → new ≡ with_black old x y →
    (a b : ℤ) → is_black new a b ≡ (is_place a b x y || is_black old a b)
set_pixels old new x y p q e a b = ap (λ plane. is_black plane a b) e ∙ set_is_black old x y a b p q

pub painted_pixels : (old shape new : Pixels) (left bottom : ℤ) → new ≡ painted old shape left bottom →
    (x y : ℤ) → is_black new x y ≡ (is_black old x y || (is_inside old x y && is_black shape (x -ℤ left) (y -ℤ bottom)))
painted_pixels old shape new left bottom e x y = ap (λ plane. is_black plane x y) e ∙ painted_is_black old shape left bottom x y

pub same_width : (plane other : Pixels) → plane ≡ other → plane.width ≡ other.width
same_width plane other e = ap (λ (made : Pixels). made.width) e

pub same_height : (plane other : Pixels) → plane ≡ other → plane.height ≡ other.height
same_height plane other e = ap (λ (made : Pixels). made.height) e
