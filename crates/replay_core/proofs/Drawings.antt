-- Notices as those of drawings, which ascend.
use Rattle.std.proofs.Common.{◌≡◌, ◌<◌, ◌≤◌, ℕ, zero, suc, cond, Option, Some, None, ◌⊎◌, inl, inr, List, [], ◌∷◌, length, map, refl, sym, ap, ◌∙◌, subst, arith}
use Rattle.std.specs.Prelude.{slice_get, option_map}
use Rattle.std.proofs.lemmas.Bool.{eq-eqb, ne_eqb, cases_eq}
use Rattle.std.proofs.lemmas.Option.{slice_get-map}
use Rattle.djvu_base.specs.Library.{Library}
use Rattle.djvu_base.specs.Announced.{Announced}
use Rattle.djvu_base.specs.Picture.{Picture}
use Rattle.zp_table.specs.declared.rows.Row.{Row}
use Rattle.layer_compose.specs.Drawing.{raster_of}
use Rattle.page_decoder.specs.PageRead.{Drawing, notice_of, AscendFrom}
use Rattle.page_decoder.specs.Libraries.{run, drawing_at, draw}
use Rattle.replay_core.specs.Machine.{Answer, Looked, last_of, page_notices, LooksRise, ShowsNoLess, TellsDrawing}
use Rattle.replay_core.proofs.Listing.{some_same}

-- each drawing of a list that ascends stands behind more chunks than the list begins with
above : (drawings : List Drawing) (chunks decisions number : ℕ) (it : Drawing) → AscendFrom chunks decisions drawings → slice_get drawings number ≡ Some it
    → chunks < it.chunks
above [] chunks decisions number it order e = absurd (let wrong : None ≡ Some it = e in cc)
above (drawing ∷ drawings) chunks decisions zero it order e = subst (λ (d : Drawing). chunks < d.chunks) (some_same drawing it e) order.0
above (drawing ∷ drawings) chunks decisions (suc number) it order e =
    let more = above drawings drawing.chunks drawing.decisions number it order.2 e in
    let first = order.0 in
    omega (arith, more, first)

later_above : (drawings : List Drawing) (chunks decisions first second : ℕ) (it other : Drawing) → AscendFrom chunks decisions drawings
    → slice_get drawings first ≡ Some it → slice_get drawings second ≡ Some other → first < second → it.chunks < other.chunks
later_above [] chunks decisions first second it other order e f less = absurd (let wrong : None ≡ Some it = e in cc)
later_above (drawing ∷ drawings) chunks decisions first zero it other order e f less = absurd (omega (arith, less))
later_above (drawing ∷ drawings) chunks decisions zero (suc second) it other order e f less =
    subst (λ (d : Drawing). d.chunks < other.chunks) (some_same drawing it e) (above drawings drawing.chunks drawing.decisions second other order.2 f)
later_above (drawing ∷ drawings) chunks decisions (suc first) (suc second) it other order e f less =
    later_above drawings drawing.chunks drawing.decisions first second it other order.2 e f (omega (arith, less))

-- so it is the one that is found by its chunks
found_by : (drawings : List Drawing) (chunks decisions number : ℕ) (it : Drawing) → AscendFrom chunks decisions drawings → slice_get drawings number ≡ Some it
    → drawing_at it.chunks drawings ≡ Some (raster_of it.layers)
found_by [] chunks decisions number it order e = absurd (let wrong : None ≡ Some it = e in cc)
found_by (drawing ∷ drawings) chunks decisions zero it order e =
    subst (λ (d : Drawing). drawing_at d.chunks (drawing ∷ drawings) ≡ Some (raster_of d.layers)) (some_same drawing it e)
    (ap (λ b. cond b (Some (raster_of drawing.layers)) (drawing_at drawing.chunks drawings)) (eq-eqb drawing.chunks drawing.chunks refl))
found_by (drawing ∷ drawings) chunks decisions (suc number) it order e =
    let more = above drawings drawing.chunks drawing.decisions number it order.2 e in
    ap (λ b. cond b (Some (raster_of drawing.layers)) (drawing_at it.chunks drawings)) (ne_eqb drawing.chunks it.chunks (λ same. omega (arith, same, more)))
    ∙ found_by drawings drawing.chunks drawing.decisions number it order.2 e

-- the drawing of a notice
its_drawing : (drawings : List Drawing) (number : ℕ) (notice : Announced) → slice_get (map notice_of drawings) number ≡ Some notice
    → (drawing : Drawing) × (slice_get drawings number ≡ Some drawing) × (notice ≡ notice_of drawing)
its_drawing drawings number notice e = by (slice_get drawings number) refl
  where
    by : (found : Option Drawing) → slice_get drawings number ≡ found
        → (drawing : Drawing) × (slice_get drawings number ≡ Some drawing) × (notice ≡ notice_of drawing)
    by None f = absurd (let wrong : None ≡ Some notice = ap (option_map notice_of) (sym f) ∙ sym (slice_get-map notice_of drawings number) ∙ e in cc)
    by (Some drawing) f =
        (drawing, f, sym (some_same (notice_of drawing) notice (ap (option_map notice_of) (sym f) ∙ sym (slice_get-map notice_of drawings number) ∙ e)))

pub tells_drawing : (table : List Row) (library : Library) (file number : ℕ) (notice : Announced)
    → AscendFrom 0 0 (run table library file).left.told.drawings
    → ((page chunks : ℕ) (picture : Picture) → drawing_at chunks (run table library page).left.told.drawings ≡ Some picture
    → draw table library page chunks ≡ Some picture)
    → slice_get (page_notices table library file) number ≡ Some notice → TellsDrawing table library file notice
tells_drawing table library file number notice order told e =
    let its = its_drawing (run table library file).left.told.drawings number notice e in
    let found = found_by (run table library file).left.told.drawings 0 0 number its.0 order its.1 in
    record {
      drawing = its.0;
      notice_so = its.2;
      draw_so = subst (λ (n : Announced). draw table library file n.chunks ≡ Some (raster_of its.0.layers)) (sym its.2)
          (told file its.0.chunks (raster_of its.0.layers) found);
    }

-- ---- looks

pub there : {A : Type 0} (items : List A) (number : ℕ) → number < length items → (item : A) × (slice_get items number ≡ Some item)
there [] number less = absurd (omega (arith, less))
there (item ∷ items) zero less = (item, refl)
there (item ∷ items) (suc number) less = there items number (omega (arith, less))

same_or_later : (drawings : List Drawing) → AscendFrom 0 0 drawings → (before after : ℕ) (notice : Announced) → before ≤ after
    → after ≤ length (map notice_of drawings)
    → last_of (map notice_of drawings) before ≡ Some notice
    → (last : Announced) × (last_of (map notice_of drawings) after ≡ Some last) × ((notice ≡ last) ⊎ (notice.chunks < last.chunks))
same_or_later drawings order zero after notice rising within e = absurd (let wrong : None ≡ Some notice = e in cc)
same_or_later drawings order (suc before) zero notice rising within e = absurd (omega (arith, rising))
same_or_later drawings order (suc before) (suc after) notice rising within e =
    let last = there (map notice_of drawings) after (omega (arith, within)) in
    (last.0, last.1, by last.0 last.1 (cases_eq before after))
  where
    by : (last : Announced) → slice_get (map notice_of drawings) after ≡ Some last → (before ≡ after) ⊎ (before ≡ after → ⊥)
        → (notice ≡ last) ⊎ (notice.chunks < last.chunks)
    by last f (inl same) = inl (some_same notice last (sym e ∙ ap (slice_get (map notice_of drawings)) same ∙ f))
    by last f (inr apart) =
        let first = its_drawing drawings before notice e in
        let second = its_drawing drawings after last f in
        let less : first.0.chunks < second.0.chunks =
        later_above drawings 0 0 before after first.0 second.0 order first.1 second.1 (omega (arith, rising, apart)) in
        inr (subst (λ (n : Announced). n.chunks < last.chunks) (sym first.2) (subst (λ (n : Announced). first.0.chunks < n.chunks) (sym second.2) less))

pub shows_no_less : (drawings : List Drawing) → AscendFrom 0 0 drawings → (earlier later : Answer) → LooksRise (map notice_of drawings) earlier later
    → ShowsNoLess earlier later
shows_no_less drawings order earlier later rise =
    subst (λ a. ShowsNoLess a later) (sym rise.earlier_so) (by (last_of (map notice_of drawings) rise.before) refl)
  where
    by : (shown : Option Announced) → last_of (map notice_of drawings) rise.before ≡ shown → ShowsNoLess (Looked shown) later
    by None e = tt
    by (Some notice) e =
        let last = same_or_later drawings order rise.before rise.after notice rise.rising rise.there e in
        (last.0, rise.later_so ∙ ap Looked last.1, last.2)
