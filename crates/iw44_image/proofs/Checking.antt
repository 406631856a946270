-- The check of a layer's size.
use Rattle.std.proofs.Common.{◌≡◌, ℕ, Bool, true, false, List, Option, Some, None, refl, ap, sym, ◌∙◌, subst}
use Rattle.djvu_base.specs.declared.faults.FaultKind.{FaultKind}
use Rattle.djvu_base.specs.declared.faults.FaultKind.TheVariants as fault
use Rattle.zp_table.specs.declared.rows.Row.{Row}
use Rattle.iw44_image.specs.declared.headers.Header.{Header}
use Rattle.iw44_image.specs.Header.{Opening, Short, Wrong, Opened, checked, open_chunk}
use Rattle.iw44_image.specs.Layer.{Allowed, Data, any_size, opening_of, Layer, Fault, ends, read_opened, read_chunk}

-- without a test of the size nothing is refused by it
pub any_checked : (known : Option Header) (it : Opening) → checked (λ width height. true) known it ≡ it
any_checked (Some header) it = refl
any_checked None Short = refl
any_checked None (Wrong kind) = refl
any_checked None (Opened header slices zp) = refl

size_refused : (fits : ℕ → ℕ → Bool) (known : Option Header) (it : Opening) (header : Header) (slices : ℕ) (zp : List ℕ) → known ≡ None →
    it ≡ Opened header slices zp →
    fits header.width header.height ≡ false → checked fits known it ≡ Wrong fault.LayerSize
size_refused fits known it header slices zp none e over =
    subst (λ (k : Option Header). checked fits k it ≡ Wrong fault.LayerSize) (sym none)
    (subst (λ (o : Opening). checked fits None o ≡ Wrong fault.LayerSize) (sym e) (rw over refl))

size_taken : (fits : ℕ → ℕ → Bool) (known : Option Header) (it : Opening) (header : Header) (slices : ℕ) (zp : List ℕ) → it ≡ Opened header slices zp →
    fits header.width header.height ≡ true → checked fits known it ≡ it
size_taken fits (Some told) it header slices zp e fits_it = refl
size_taken fits None it header slices zp e fits_it = subst (λ (o : Opening). checked fits None o ≡ o) (sym e) (rw fits_it refl)

short_checked : (fits : ℕ → ℕ → Bool) (known : Option Header) (it : Opening) → it ≡ Short → checked fits known it ≡ it
short_checked fits (Some told) it e = refl
short_checked fits None it e = subst (λ (o : Opening). checked fits None o ≡ o) (sym e) refl

wrong_checked : (fits : ℕ → ℕ → Bool) (known : Option Header) (it : Opening) (kind : FaultKind) → it ≡ Wrong kind → checked fits known it ≡ it
wrong_checked fits (Some told) it kind e = refl
wrong_checked fits None it kind e = subst (λ (o : Opening). checked fits None o ≡ o) (sym e) refl

later_checked : (fits : ℕ → ℕ → Bool) (known : Option Header) (it : Opening) (header : Header) → known ≡ Some header → checked fits known it ≡ it
later_checked fits known it header e = subst (λ (k : Option Header). checked fits k it ≡ it) (sym e) refl

-- the start of a chunk before the check
start_of : Allowed → Data → Layer → Opening
start_of allowed given layer = open_chunk allowed.area layer.chunks layer.header given.bytes given.ended

start_is : (allowed : Allowed) (given : Data) (layer : Layer) → opening_of (any_size allowed.area) given layer ≡ start_of allowed given layer
unfolding start_of
start_is allowed given layer = any_checked layer.header (open_chunk allowed.area layer.chunks layer.header given.bytes given.ended)

same_by : (table : List Row) (allowed : Allowed) (given : Data) (layer : Layer) → opening_of allowed given layer ≡ start_of allowed given layer →
    read_chunk table allowed given layer ≡ read_chunk table (any_size allowed.area) given layer
same_by table allowed given layer e = ap (λ (o : Opening). read_opened table given.ended o layer) (e ∙ sym (start_is allowed given layer))

pub refused_first : (table : List Row) (allowed : Allowed) (given : Data) (layer : Layer) (header : Header) (slices : ℕ) (zp : List ℕ) → layer.header ≡ None →
    opening_of (any_size allowed.area) given layer ≡ Opened header slices zp → allowed.fits header.width header.height ≡ false →
    read_chunk table allowed given layer ≡ ends (Fault fault.LayerSize) layer
unfolding start_of
refused_first table allowed given layer header slices zp none e over =
    ap (λ (o : Opening). read_opened table given.ended o layer)
    (size_refused allowed.fits layer.header (start_of allowed given layer) header slices zp none (sym (start_is allowed given layer) ∙ e) over)

pub taken_first : (table : List Row) (allowed : Allowed) (given : Data) (layer : Layer) (header : Header) (slices : ℕ) (zp : List ℕ) →
    opening_of (any_size allowed.area) given layer ≡ Opened header slices zp → allowed.fits header.width header.height ≡ true →
    read_chunk table allowed given layer ≡ read_chunk table (any_size allowed.area) given layer
unfolding start_of
taken_first table allowed given layer header slices zp e fits_it =
    same_by table allowed given layer (size_taken allowed.fits layer.header (start_of allowed given layer) header slices zp
    (sym (start_is allowed given layer) ∙ e) fits_it)

pub later_same : (table : List Row) (allowed : Allowed) (given : Data) (layer : Layer) (header : Header) → layer.header ≡ Some header →
    read_chunk table allowed given layer ≡ read_chunk table (any_size allowed.area) given layer
unfolding start_of
later_same table allowed given layer header e = same_by table allowed given layer
    (later_checked allowed.fits layer.header (start_of allowed given layer) header e)

pub short_same : (table : List Row) (allowed : Allowed) (given : Data) (layer : Layer) → opening_of (any_size allowed.area) given layer ≡ Short →
    read_chunk table allowed given layer ≡ read_chunk table (any_size allowed.area) given layer
unfolding start_of
short_same table allowed given layer e = same_by table allowed given layer
    (short_checked allowed.fits layer.header (start_of allowed given layer) (sym (start_is allowed given layer) ∙ e))

pub wrong_same : (table : List Row) (allowed : Allowed) (given : Data) (layer : Layer) (kind : FaultKind) → opening_of
    (any_size allowed.area) given layer ≡ Wrong kind →
    read_chunk table allowed given layer ≡ read_chunk table (any_size allowed.area) given layer
unfolding start_of
wrong_same table allowed given layer kind e = same_by table allowed given layer
    (wrong_checked allowed.fits layer.header (start_of allowed given layer) kind (sym (start_is allowed given layer) ∙ e))
