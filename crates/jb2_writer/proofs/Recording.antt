-- The bits of a record that are decided are read as this record.
use Rattle.std.proofs.Common.{◌≡◌, ◌≤◌, ◌+◌, ◌-◌, ℕ, suc, Bool, true, false, ◌&&◌, ℤ, pos, List, [], ◌∷◌, ◌++◌, length, refl, sym, ap, subst, arith}
use Rattle.std.specs.Prelude.{Option, None, nat_le}
use Rattle.std.specs.List.{list_all}
use Rattle.std.proofs.lemmas.Bool.{and_parts, eqb-true}
use Rattle.std.proofs.lemmas.List.{append_assoc, append-nil}
use Rattle.djvu_base.specs.declared.faults.FaultKind.{FaultKind}
use Rattle.zp_decoder.specs.declared.decoder.Decision.{Decision}
use Rattle.zp_decoder.specs.Decision.{Outcome}
use Rattle.zp_decoder.specs.Chunk.{Chunk}
use Rattle.bit_plane.specs.Pixels.{Pixels, IsPlane}
use Rattle.bit_plane.specs.declared.ink.InkBox.{InkBox}
use Rattle.bit_plane.specs.Ink.{ink_box_of, extent, unsigned}
use Rattle.jb2_numbers.specs.declared.roots.Root.{Root}
use Rattle.jb2_numbers.specs.declared.roots.Root.TheVariants as root
use Rattle.jb2_records.specs.declared.purpose.Purpose.{Purpose}
use Rattle.jb2_records.specs.Records.{Record, Start, MarkBoth, MarkLibrary, MarkImage, RefineBoth, RefineLibrary, RefineImage, Copy, Plain, Require, Comment, End, Relative, NewRow, SameRow, is_started, image_size, own_count, taken, library, shape_at}
use Rattle.jb2_records.specs.Coding.{Coder, Read, Got, then_read, checked, after_flag, after_row, bit_by, read_number, read_flag, read_row, read_direct, read_refined}
use Rattle.jb2_records.specs.Reading.{Input, most, least, type_by, type_of, type_fault, has_shapes, start_fault, shape_fault, place_fault, count_fault, pixel_limit, read_start, read_own, read_match, refined_side, read_beside, read_refinement, read_steps, read_relative, read_place, matched_in, read_copy, read_plain, with_fresh_numbers, read_require, read_bytes, read_comment, read_body, read_record}
use Rattle.jb2_records.specs.Records.{own_pixels, own_shape}
use Rattle.jb2_writer.specs.Coded.{Coded, Bit, Anew, Flag, RowStart, number_coded, direct_coded, refined_coded}
use Rattle.jb2_writer.specs.Fields.{type_number, own_coded, match_coded, side_difference, beside_coded, refinement_coded, relative_coded, require_coded, bytes_coded, body_coded, record_coded}
use Rattle.jb2_writer.specs.Refusal.{rules, is_sound, is_from_to, is_unsigned, is_step, is_shape, is_mark, is_beside, is_match, is_refinement, is_place, is_requirement, has_fields, can_follow}
use Rattle.jb2_writer.specs.Decided.{coder_outcome, IsPlaneIn}
use Rattle.jb2_writer.proofs.Joining.{Codes, then_codes, ends_codes, checked_codes, got_codes}
use Rattle.jb2_writer.proofs.Numbering.{number_codes}
use Rattle.jb2_writer.proofs.Drawing.{PlaneLaws, direct_codes, refined_codes}
use Rattle.jb2_writer.proofs.Ranging.{NumberLaws, between, reached_between, natural_bounds, signed_bounds, natural_between, few_unsigned, none_wrong, le_from, lt_from, small_sides, side_back}

-- what the limits leave of the records before one
pub record AreFew (inherited : List Pixels) (before : List Record) : Type 0 where
  pub shapes : length (library inherited before) ≤ 131072
  pub width : (image_size before).width ≤ 262142
  pub height : (image_size before).height ≤ 262142

-- ---- two bits

flag_codes : (source : Chunk) (bit : Bool) → Codes Bool source (Bit Flag bit ∷ []) (λ at. read_flag source at) bit
flag_codes source bit at to later given =
    let o : Outcome = coder_outcome source at Flag in
    record { next = after_flag at o; got = ap (λ (answer : Decision). bit_by answer (after_flag at o) at.decisions) given.0; decided = given.1 }

row_codes : (source : Chunk) (bit : Bool) → Codes Bool source (Bit RowStart bit ∷ []) (λ at. read_row source at) bit
row_codes source bit at to later given =
    let o : Outcome = coder_outcome source at RowStart in
    record { next = after_row at o; got = ap (λ (answer : Decision). bit_by answer (after_row at o) at.decisions) given.0; decided = given.1 }

module _ (source : Chunk) (inherited : List Pixels) (purpose : Purpose) (numbers : NumberLaws) (planes : PlaneLaws) where
  abbrev input : Input
  input = record { chunk = source; inherited = inherited; purpose = purpose }

  abbrev Reads : (A : Type 0) → List Coded → (Coder → Read A) → A → Type 0
  Reads A bits reading value = Codes A source bits reading value

  -- ---- numbers

  unsigned_codes : (name : Root) (value : ℕ) → value ≤ 262142 →
      Reads ℤ (number_coded name (pos 0) most (pos value)) (λ at. read_number source name (pos 0) most at) (pos value)
  unsigned_codes name value few =
      number_codes source name (pos 0) most (pos value)
      (reached_between numbers name (pos 0) most (pos value) (natural_bounds 0 262142 (omega arith) (omega arith))
      (natural_between 0 262142 value (omega arith) few))

  natural_codes : (name : Root) (low high value : ℕ) → low ≤ value → value ≤ high → high ≤ 262142 →
      Reads ℤ (number_coded name (pos low) (pos high) (pos value)) (λ at. read_number source name (pos low) (pos high) at) (pos value)
  natural_codes name low high value from to few =
      number_codes source name (pos low) (pos high) (pos value)
      (reached_between numbers name (pos low) (pos high) (pos value) (natural_bounds low high (omega (arith, from, to)) few)
      (natural_between low high value from to))

  signed_codes : (name : Root) (value : ℤ) → is_from_to least most value ≡ true →
      Reads ℤ (number_coded name least most value) (λ at. read_number source name least most at) value
  signed_codes name value e =
      number_codes source name least most value (reached_between numbers name least most value signed_bounds (between least most value e))

  -- ---- shapes

  own_codes : (before : List Record) (shape : Pixels) → IsPlane shape → is_shape (rules inherited purpose) before shape ≡ true →
      Reads Pixels (own_coded shape) (λ at. read_own input before at) shape
  own_codes before shape plane e =
      let none = none_wrong (shape_fault input before (pos shape.width) (pos shape.height)) e in
      let small = small_sides (pixel_limit purpose) (length (taken inherited before) + own_count before) (own_pixels before) shape.width shape.height none in
      then_codes source ℤ Pixels (number_coded root.ShapeWidth (pos 0) most (pos shape.width))
      (number_coded root.ShapeHeight (pos 0) most (pos shape.height) ++ direct_coded shape) (λ at. read_number source root.ShapeWidth (pos 0) most at)
      (λ width at.
      then_read (read_number source root.ShapeHeight (pos 0) most at) (λ height at.
      checked (shape_fault input before width height) at (λ at.
      read_direct source (unsigned width) (unsigned height) at)))
      (pos shape.width) shape (unsigned_codes root.ShapeWidth shape.width small.wide)
      (then_codes source ℤ Pixels (number_coded root.ShapeHeight (pos 0) most (pos shape.height)) (direct_coded shape)
      (λ at. read_number source root.ShapeHeight (pos 0) most at)
      (λ height at.
      checked (shape_fault input before (pos shape.width) height) at (λ at.
      read_direct source shape.width (unsigned height) at))
      (pos shape.height) shape (unsigned_codes root.ShapeHeight shape.height small.high)
      (checked_codes source Pixels (direct_coded shape) (shape_fault input before (pos shape.width) (pos shape.height))
      (λ at. read_direct source shape.width shape.height at) shape none (direct_codes source shape planes plane)))

  match_codes : (before : List Record) (matched : ℕ) → AreFew inherited before → is_match (rules inherited purpose) before matched ≡ true →
      Reads ℤ (match_coded (library inherited before) matched) (λ at. read_match input before at) (pos matched)
  match_codes before matched few e =
      let below = lt_from matched (length (library inherited before)) e in
      let shapes = few.shapes in
      natural_codes root.Match 0 (length (library inherited before) - 1) matched (omega arith) (omega (arith, below)) (omega (arith, shapes))

  -- a refined shape whose sides are known
  sized_codes : (before : List Record) (matched shape : Pixels) → IsPlane shape → shape_fault input before (pos shape.width) (pos shape.height) ≡ None →
      (width height : ℤ) → pos shape.width ≡ width → pos shape.height ≡ height →
      Reads Pixels (refined_coded matched shape)
      (λ at. checked (shape_fault input before width height) at (λ at. read_refined source matched (unsigned width) (unsigned height) at)) shape
  sized_codes before matched shape plane none width height p q =
      subst (λ (w : ℤ). Reads Pixels (refined_coded matched shape)
      (λ at. checked (shape_fault input before w height) at (λ at. read_refined source matched (unsigned w) (unsigned height) at)) shape) p
      (subst (λ (h : ℤ). Reads Pixels (refined_coded matched shape)
      (λ at. checked (shape_fault input before (pos shape.width) h) at (λ at. read_refined source matched shape.width (unsigned h) at)) shape) q
      (checked_codes source Pixels (refined_coded matched shape) (shape_fault input before (pos shape.width) (pos shape.height))
      (λ at. read_refined source matched shape.width shape.height at) shape none (refined_codes source matched shape planes plane)))

  beside_codes : (before : List Record) (matched : Pixels) (box : InkBox) (shape : Pixels) → IsPlane shape → is_beside box shape ≡ true →
      is_shape (rules inherited purpose) before shape ≡ true →
      Reads Pixels (beside_coded matched box shape) (λ at. read_beside input before matched box at) shape
  beside_codes before matched box shape plane beside e =
      let none = none_wrong (shape_fault input before (pos shape.width) (pos shape.height)) e in
      let wide : ℤ = side_difference shape.width box.left box.right in
      let high : ℤ = side_difference shape.height box.bottom box.top in
      let sides = and_parts (is_from_to least most wide) (is_from_to least most high) beside in
      then_codes source ℤ Pixels (number_coded root.WidthDifference least most wide)
      (number_coded root.HeightDifference least most high ++ refined_coded matched shape) (λ at. read_number source root.WidthDifference least most at)
      (λ width at.
      then_read (read_number source root.HeightDifference least most at) (λ height at.
      checked (shape_fault input before (refined_side box.left box.right width) (refined_side box.bottom box.top height)) at (λ at.
      read_refined source matched (unsigned (refined_side box.left box.right width)) (unsigned (refined_side box.bottom box.top height)) at)))
      wide shape (signed_codes root.WidthDifference wide sides.0)
      (then_codes source ℤ Pixels (number_coded root.HeightDifference least most high) (refined_coded matched shape)
      (λ at. read_number source root.HeightDifference least most at)
      (λ height at.
      checked (shape_fault input before (refined_side box.left box.right wide) (refined_side box.bottom box.top height)) at (λ at.
      read_refined source matched (unsigned (refined_side box.left box.right wide)) (unsigned (refined_side box.bottom box.top height)) at))
      high shape (signed_codes root.HeightDifference high sides.1)
      (sized_codes before matched shape plane none (refined_side box.left box.right wide) (refined_side box.bottom box.top high)
      (sym (side_back shape.width (extent box.left box.right))) (sym (side_back shape.height (extent box.bottom box.top)))))

  -- a refined shape, with what follows it
  refinement_codes : (before : List Record) (matched : ℕ) (shape : Pixels) (more : List Coded) (rest : ℤ → Pixels → Coder → Read Record) (entry : Record) →
      AreFew inherited before → IsPlane shape → is_refinement (rules inherited purpose) before matched shape ≡ true →
      Reads Record more (rest (pos matched) shape) entry →
      Reads Record (refinement_coded (library inherited before) matched shape ++ more)
      (λ at.
      then_read (read_match input before at) (λ number at.
      then_read (read_refinement input before (matched_in input before number) at) (λ shape at. rest number shape at))) entry
  refinement_codes before matched shape more rest entry few plane e codes =
      let shapes : List Pixels = library inherited before in
      let old : Pixels = shape_at (library inherited before) matched in
      let outer = and_parts (is_match (rules inherited purpose) before matched && is_beside (ink_box_of old) shape)
      (is_shape (rules inherited purpose) before shape) e in
      let inner = and_parts (is_match (rules inherited purpose) before matched) (is_beside (ink_box_of old) shape) outer.0 in
      let beside : List Coded = beside_coded old (ink_box_of old) shape in
      subst (λ (bits : List Coded). Reads Record bits
      (λ at.
      then_read (read_match input before at) (λ number at.
      then_read (read_refinement input before (matched_in input before number) at) (λ shape at. rest number shape at))) entry)
      (sym (append_assoc (match_coded shapes matched) beside more))
      (then_codes source ℤ Record (match_coded shapes matched) (beside ++ more) (λ at. read_match input before at)
      (λ number at. then_read (read_refinement input before (matched_in input before number) at) (λ shape at. rest number shape at))
      (pos matched) entry (match_codes before matched few inner.0)
      (then_codes source Pixels Record beside more (λ at. read_beside input before old (ink_box_of old) at) (λ shape at. rest (pos matched) shape at)
      shape entry (beside_codes before old (ink_box_of old) shape plane inner.1 outer.1) codes))

  -- ---- places

  steps_codes : (across up : Root) (dx dy : ℤ) (make : ℤ → ℤ → Relative) → is_from_to least most dx ≡ true → is_from_to least most dy ≡ true →
      Reads Relative (number_coded across least most dx ++ number_coded up least most dy)
      (λ at.
      then_read (read_number source across least most at) (λ dx at.
      then_read (read_number source up least most at) (λ dy at. Got (make dx dy) at))) (make dx dy)
  steps_codes across up dx dy make p q =
      then_codes source ℤ Relative (number_coded across least most dx) (number_coded up least most dy) (λ at. read_number source across least most at)
      (λ dx at. then_read (read_number source up least most at) (λ dy at. Got (make dx dy) at)) dx (make dx dy) (signed_codes across dx p)
      (ends_codes source ℤ Relative (number_coded up least most dy) (λ at. read_number source up least most at) (λ dy at. Got (make dx dy) at)
      dy (make dx dy) (signed_codes up dy q) (got_codes source Relative (make dx dy)))

  relative_codes : (place : Relative) → is_step place ≡ true → Reads Relative (relative_coded place) (λ at. read_relative source at) place
  relative_codes (NewRow dx dy) e =
      let parts = and_parts (is_from_to least most dx) (is_from_to least most dy) e in
      then_codes source Bool Relative (Bit RowStart true ∷ []) (number_coded root.NewRowX least most dx ++ number_coded root.NewRowY least most dy)
      (λ at. read_row source at) (λ is_new at. read_steps source is_new at) true (NewRow dx dy) (row_codes source true)
      (steps_codes root.NewRowX root.NewRowY dx dy (λ x y. NewRow x y) parts.0 parts.1)
  relative_codes (SameRow dx dy) e =
      let parts = and_parts (is_from_to least most dx) (is_from_to least most dy) e in
      then_codes source Bool Relative (Bit RowStart false ∷ []) (number_coded root.SameRowX least most dx ++ number_coded root.SameRowY least most dy)
      (λ at. read_row source at) (λ is_new at. read_steps source is_new at) false (SameRow dx dy) (row_codes source false)
      (steps_codes root.SameRowX root.SameRowY dx dy (λ x y. SameRow x y) parts.0 parts.1)

  place_codes : (before : List Record) (shape : Pixels) (make : Relative → Record) (place : Relative) →
      is_mark (rules inherited purpose) before shape place ≡ true →
      Reads Record (relative_coded place) (λ at. read_place input before shape make at) (make place)
  place_codes before shape make place e =
      let parts = and_parts (is_step place) (is_sound (place_fault input before shape)) e in
      ends_codes source Relative Record (relative_coded place) (λ at. read_relative source at)
      (λ place at. checked (place_fault input before shape) at (λ at. Got (make place) at)) place (make place) (relative_codes place parts.0)
      (checked_codes source Record [] (place_fault input before shape) (λ at. Got (make place) at) (make place)
      (none_wrong (place_fault input before shape) parts.1) (got_codes source Record (make place)))

  -- ---- the other records

  start_codes : (before : List Record) (width height : ℕ) (flag : Bool) → has_fields (rules inherited purpose) before (Start width height flag) ≡ true →
      Reads Record (body_coded (library inherited before) before (Start width height flag)) (λ at. read_start input at) (Start width height flag)
  start_codes before width height flag e =
      let outer = and_parts (is_unsigned width && is_unsigned height) (is_sound (start_fault purpose (pos width) (pos height))) e in
      let inner = and_parts (is_unsigned width) (is_unsigned height) outer.0 in
      then_codes source ℤ Record (number_coded root.ImageSize (pos 0) most (pos width))
      (number_coded root.ImageSize (pos 0) most (pos height) ++ Bit Flag flag ∷ []) (λ at. read_number source root.ImageSize (pos 0) most at)
      (λ width at.
      then_read (read_number source root.ImageSize (pos 0) most at) (λ height at.
      then_read (read_flag source at) (λ flag at.
      checked (start_fault purpose width height) at (λ at. Got (Start (unsigned width) (unsigned height) flag) at))))
      (pos width) (Start width height flag) (unsigned_codes root.ImageSize width (few_unsigned width inner.0))
      (then_codes source ℤ Record (number_coded root.ImageSize (pos 0) most (pos height)) (Bit Flag flag ∷ [])
      (λ at. read_number source root.ImageSize (pos 0) most at)
      (λ height at.
      then_read (read_flag source at) (λ flag at.
      checked (start_fault purpose (pos width) height) at (λ at. Got (Start width (unsigned height) flag) at)))
      (pos height) (Start width height flag) (unsigned_codes root.ImageSize height (few_unsigned height inner.1))
      (ends_codes source Bool Record (Bit Flag flag ∷ []) (λ at. read_flag source at)
      (λ flag at. checked (start_fault purpose (pos width) (pos height)) at (λ at. Got (Start width height flag) at))
      flag (Start width height flag) (flag_codes source flag)
      (checked_codes source Record [] (start_fault purpose (pos width) (pos height)) (λ at. Got (Start width height flag) at) (Start width height flag)
      (none_wrong (start_fault purpose (pos width) (pos height)) outer.1) (got_codes source Record (Start width height flag)))))

  copy_codes : (before : List Record) (matched : ℕ) (place : Relative) → AreFew inherited before →
      has_fields (rules inherited purpose) before (Copy matched place) ≡ true →
      Reads Record (match_coded (library inherited before) matched ++ relative_coded place) (λ at. read_copy input before at) (Copy matched place)
  copy_codes before matched place few e =
      let old : Pixels = shape_at (library inherited before) matched in
      let parts = and_parts (is_match (rules inherited purpose) before matched) (is_mark (rules inherited purpose) before old place) e in
      then_codes source ℤ Record (match_coded (library inherited before) matched) (relative_coded place) (λ at. read_match input before at)
      (λ number at. read_place input before (matched_in input before number) (λ place. Copy (unsigned number) place) at)
      (pos matched) (Copy matched place) (match_codes before matched few parts.0)
      (place_codes before old (λ place. Copy matched place) place parts.1)

  plain_codes : (before : List Record) (shape : Pixels) (left top : ℕ) → AreFew inherited before → IsPlane shape →
      has_fields (rules inherited purpose) before (Plain shape left top) ≡ true →
      Reads Record (body_coded (library inherited before) before (Plain shape left top)) (λ at. read_plain input before at) (Plain shape left top)
  plain_codes before shape left top few plane e =
      let wide : ℕ = (image_size before).width in
      let high : ℕ = (image_size before).height in
      let outer = and_parts (is_shape (rules inherited purpose) before shape && is_place wide left && is_place high top)
      (is_sound (place_fault input before shape)) e in
      let middle = and_parts (is_shape (rules inherited purpose) before shape && is_place wide left) (is_place high top) outer.0 in
      let inner = and_parts (is_shape (rules inherited purpose) before shape) (is_place wide left) middle.0 in
      let columns = and_parts (nat_le 1 left) (nat_le left wide) inner.1 in
      let rows = and_parts (nat_le 1 top) (nat_le top high) middle.1 in
      let none = none_wrong (place_fault input before shape) outer.1 in
      then_codes source Pixels Record (own_coded shape)
      (number_coded root.AbsoluteLeft (pos 1) (pos wide) (pos left) ++ number_coded root.AbsoluteTop (pos 1) (pos high) (pos top))
      (λ at. read_own input before at)
      (λ shape at.
      then_read (read_number source root.AbsoluteLeft (pos 1) (pos wide) at) (λ left at.
      then_read (read_number source root.AbsoluteTop (pos 1) (pos high) at) (λ top at.
      checked (place_fault input before shape) at (λ at. Got (Plain shape (unsigned left) (unsigned top)) at))))
      shape (Plain shape left top) (own_codes before shape plane inner.0)
      (then_codes source ℤ Record (number_coded root.AbsoluteLeft (pos 1) (pos wide) (pos left)) (number_coded root.AbsoluteTop (pos 1) (pos high) (pos top))
      (λ at. read_number source root.AbsoluteLeft (pos 1) (pos wide) at)
      (λ left at.
      then_read (read_number source root.AbsoluteTop (pos 1) (pos high) at) (λ top at.
      checked (place_fault input before shape) at (λ at. Got (Plain shape (unsigned left) (unsigned top)) at)))
      (pos left) (Plain shape left top)
      (natural_codes root.AbsoluteLeft 1 wide left (le_from 1 left columns.0) (le_from left wide columns.1) few.width)
      (ends_codes source ℤ Record (number_coded root.AbsoluteTop (pos 1) (pos high) (pos top)) (λ at. read_number source root.AbsoluteTop (pos 1) (pos high) at)
      (λ top at. checked (place_fault input before shape) at (λ at. Got (Plain shape left (unsigned top)) at))
      (pos top) (Plain shape left top) (natural_codes root.AbsoluteTop 1 high top (le_from 1 top rows.0) (le_from top high rows.1) few.height)
      (checked_codes source Record [] (place_fault input before shape) (λ at. Got (Plain shape left top) at) (Plain shape left top) none
      (got_codes source Record (Plain shape left top)))))

  anew_codes : Reads Record (Anew ∷ []) (λ at. Got (Require 0) (with_fresh_numbers at)) (Require 0)
  anew_codes at to later given = record { next = with_fresh_numbers at; got = refl; decided = given }

  require_codes : (started : Bool) (count : ℕ) → is_requirement (rules inherited purpose) started count ≡ true →
      Reads Record (require_coded started count) (λ at. read_require input started at) (Require count)
  require_codes true count e =
      let none : count ≡ 0 = eqb-true count 0 e in
      subst (λ (n : ℕ). Reads Record (Anew ∷ []) (λ at. Got (Require 0) (with_fresh_numbers at)) (Require n)) (sym none) anew_codes
  require_codes false count e =
      let parts = and_parts (is_unsigned count) (is_sound (count_fault input (pos count))) e in
      ends_codes source ℤ Record (number_coded root.InheritedCount (pos 0) most (pos count)) (λ at. read_number source root.InheritedCount (pos 0) most at)
      (λ count at. checked (count_fault input count) at (λ at. Got (Require (unsigned count)) at)) (pos count) (Require count)
      (unsigned_codes root.InheritedCount count (few_unsigned count parts.0))
      (checked_codes source Record [] (count_fault input (pos count)) (λ at. Got (Require count) at) (Require count)
      (none_wrong (count_fault input (pos count)) parts.1) (got_codes source Record (Require count)))

  bytes_codes : (bytes earlier : List ℕ) → list_all (λ byte. nat_le byte 255) bytes ≡ true →
      Reads Record (bytes_coded bytes) (λ at. read_bytes source (length bytes) earlier at) (Comment (earlier ++ bytes))
  bytes_codes [] earlier e =
      subst (λ (all : List ℕ). Reads Record [] (λ at. Got (Comment earlier) at) (Comment all)) (sym (append-nil earlier))
      (got_codes source Record (Comment earlier))
  bytes_codes (byte ∷ bytes) earlier e =
      let parts = and_parts (nat_le byte 255) (list_all (λ byte. nat_le byte 255) bytes) e in
      subst (λ (all : List ℕ). Reads Record (bytes_coded (byte ∷ bytes)) (λ at. read_bytes source (suc (length bytes)) earlier at) (Comment all))
      (append_assoc earlier (byte ∷ []) bytes)
      (then_codes source ℤ Record (number_coded root.CommentByte (pos 0) (pos 255) (pos byte)) (bytes_coded bytes)
      (λ at. read_number source root.CommentByte (pos 0) (pos 255) at)
      (λ byte at. read_bytes source (length bytes) (earlier ++ unsigned byte ∷ []) at) (pos byte) (Comment (earlier ++ byte ∷ [] ++ bytes))
      (natural_codes root.CommentByte 0 255 byte (omega arith) (le_from byte 255 parts.0) (omega arith))
      (bytes_codes bytes (earlier ++ byte ∷ []) parts.1))

  comment_codes : (before : List Record) (bytes : List ℕ) → has_fields (rules inherited purpose) before (Comment bytes) ≡ true →
      Reads Record (body_coded (library inherited before) before (Comment bytes)) (λ at. read_comment source at) (Comment bytes)
  comment_codes before bytes e =
      let parts = and_parts (is_unsigned (length bytes)) (list_all (λ byte. nat_le byte 255) bytes) e in
      then_codes source ℤ Record (number_coded root.CommentLength (pos 0) most (pos (length bytes))) (bytes_coded bytes)
      (λ at. read_number source root.CommentLength (pos 0) most at) (λ count at. read_bytes source (unsigned count) [] at)
      (pos (length bytes)) (Comment bytes) (unsigned_codes root.CommentLength (length bytes) (few_unsigned (length bytes) parts.0))
      (bytes_codes bytes [] parts.1)

  -- ---- a record

  -- a shape of its own, with what follows it
  marked_codes : (before : List Record) (shape : Pixels) (more : List Coded) (rest : Pixels → Coder → Read Record) (entry : Record) →
      IsPlane shape → is_shape (rules inherited purpose) before shape ≡ true → Reads Record more (rest shape) entry →
      Reads Record (own_coded shape ++ more) (λ at. then_read (read_own input before at) (λ shape at. rest shape at)) entry
  marked_codes before shape more rest entry plane e codes =
      then_codes source Pixels Record (own_coded shape) more (λ at. read_own input before at) rest shape entry (own_codes before shape plane e) codes

  body_codes : (before : List Record) (entry : Record) → AreFew inherited before → IsPlaneIn (own_shape entry) →
      has_fields (rules inherited purpose) before entry ≡ true →
      Reads Record (body_coded (library inherited before) before entry) (λ at. read_body input before (type_by (type_number entry)) at) entry
  body_codes before (Start width height flag) few plane e = start_codes before width height flag e
  body_codes before (MarkBoth shape place) few plane e =
      let parts = and_parts (is_shape (rules inherited purpose) before shape) (is_mark (rules inherited purpose) before shape place) e in
      marked_codes before shape (relative_coded place) (λ shape at. read_place input before shape (λ place. MarkBoth shape place) at) (MarkBoth shape place)
      plane parts.0 (place_codes before shape (λ place. MarkBoth shape place) place parts.1)
  body_codes before (MarkLibrary shape) few plane e =
      ends_codes source Pixels Record (own_coded shape) (λ at. read_own input before at) (λ shape at. Got (MarkLibrary shape) at) shape (MarkLibrary shape)
      (own_codes before shape plane e) (got_codes source Record (MarkLibrary shape))
  body_codes before (MarkImage shape place) few plane e =
      let parts = and_parts (is_shape (rules inherited purpose) before shape) (is_mark (rules inherited purpose) before shape place) e in
      marked_codes before shape (relative_coded place) (λ shape at. read_place input before shape (λ place. MarkImage shape place) at) (MarkImage shape place)
      plane parts.0 (place_codes before shape (λ place. MarkImage shape place) place parts.1)
  body_codes before (RefineBoth matched shape place) few plane e =
      let parts = and_parts (is_refinement (rules inherited purpose) before matched shape) (is_mark (rules inherited purpose) before shape place) e in
      refinement_codes before matched shape (relative_coded place)
      (λ number shape at. read_place input before shape (λ place. RefineBoth (unsigned number) shape place) at) (RefineBoth matched shape place) few plane
      parts.0 (place_codes before shape (λ place. RefineBoth matched shape place) place parts.1)
  body_codes before (RefineLibrary matched shape) few plane e =
      subst (λ (bits : List Coded). Reads Record bits
      (λ at.
      then_read (read_match input before at) (λ number at.
      then_read (read_refinement input before (matched_in input before number) at) (λ shape at.
      Got (RefineLibrary (unsigned number) shape) at))) (RefineLibrary matched shape))
      (append-nil (refinement_coded (library inherited before) matched shape))
      (refinement_codes before matched shape [] (λ number shape at. Got (RefineLibrary (unsigned number) shape) at) (RefineLibrary matched shape) few plane e
      (got_codes source Record (RefineLibrary matched shape)))
  body_codes before (RefineImage matched shape place) few plane e =
      let parts = and_parts (is_refinement (rules inherited purpose) before matched shape) (is_mark (rules inherited purpose) before shape place) e in
      refinement_codes before matched shape (relative_coded place)
      (λ number shape at. read_place input before shape (λ place. RefineImage (unsigned number) shape place) at) (RefineImage matched shape place) few plane
      parts.0 (place_codes before shape (λ place. RefineImage matched shape place) place parts.1)
  body_codes before (Copy matched place) few plane e = copy_codes before matched place few e
  body_codes before (Plain shape left top) few plane e = plain_codes before shape left top few plane e
  body_codes before (Require count) few plane e = require_codes (is_started before) count e
  body_codes before (Comment bytes) few plane e = comment_codes before bytes e
  body_codes before End few plane e = got_codes source Record End

  few_types : (entry : Record) → type_number entry ≤ 11
  few_types (Start width height flag) = omega arith
  few_types (MarkBoth shape at) = omega arith
  few_types (MarkLibrary shape) = omega arith
  few_types (MarkImage shape at) = omega arith
  few_types (RefineBoth matched shape at) = omega arith
  few_types (RefineLibrary matched shape) = omega arith
  few_types (RefineImage matched shape at) = omega arith
  few_types (Copy matched at) = omega arith
  few_types (Plain shape left top) = omega arith
  few_types (Require count) = omega arith
  few_types (Comment bytes) = omega arith
  few_types End = omega arith

  pub record_codes : (before : List Record) (entry : Record) → AreFew inherited before → IsPlaneIn (own_shape entry) →
      can_follow (rules inherited purpose) before entry ≡ true →
      Codes Record source (record_coded inherited before entry) (λ at. read_record input before at) entry
  record_codes before entry few plane e =
      let given : Option FaultKind = type_fault purpose (is_started before) (has_shapes input before) (type_by (type_number entry)) in
      let parts = and_parts (is_sound given) (has_fields (rules inherited purpose) before entry) e in
      then_codes source ℤ Record (number_coded root.RecordType (pos 0) (pos 11) (pos (type_number entry)))
      (body_coded (library inherited before) before entry) (λ at. read_number source root.RecordType (pos 0) (pos 11) at)
      (λ number at.
      checked (type_fault purpose (is_started before) (has_shapes input before) (type_of number)) at (λ at. read_body input before (type_of number) at))
      (pos (type_number entry)) entry (natural_codes root.RecordType 0 11 (type_number entry) (omega arith) (few_types entry) (omega arith))
      (checked_codes source Record (body_coded (library inherited before) before entry) given
      (λ at. read_body input before (type_by (type_number entry)) at) entry (none_wrong given parts.0) (body_codes before entry few plane parts.1))
