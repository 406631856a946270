-- Bits that are decided are read as a value, and readings are joined as their bits are.
use Rattle.std.proofs.Common.{◌≡◌, List, [], ◌++◌, refl, sym, subst}
use Rattle.std.specs.Prelude.{Option, None}
use Rattle.std.proofs.lemmas.List.{append_assoc}
use Rattle.djvu_base.specs.declared.faults.FaultKind.{FaultKind}
use Rattle.zp_decoder.specs.Chunk.{Chunk}
use Rattle.jb2_records.specs.Coding.{Coder, Read, Got, then_read, checked}
use Rattle.jb2_writer.specs.Coded.{Coded}
use Rattle.jb2_writer.specs.Decided.{AreDecided}

-- a value is read, and the later bits are decided from there on
pub record IsRead (A : Type 0) (source : Chunk) (reading : Read A) (value : A) (later : List Coded) (to : Coder) : Type 0 where
  pub next : Coder
  pub got : reading ≡ Got value next
  pub decided : AreDecided source next later to

-- wherever these bits are decided, this reading gives this value
abbrev pub Codes : (A : Type 0) → Chunk → List Coded → (Coder → Read A) → A → Type 0
Codes A source bits reading value =
    (at to : Coder) (later : List Coded) → AreDecided source at (bits ++ later) to → IsRead A source (reading at) value later to

module _ (source : Chunk) where
  then_is_read : (A B : Type 0) (first : Read A) (rest : A → Coder → Read B) (value : A) (result : B) (next at to : Coder) (later : List Coded) →
      first ≡ Got value next → IsRead B source (rest value next) result later to → IsRead B source (then_read first rest) result later to
  then_is_read A B first rest value result next at to later e read =
      subst (λ (reading : Read A). IsRead B source (then_read reading rest) result later to) (sym e) read

  pub then_codes : (A B : Type 0) (bits more : List Coded) (first : Coder → Read A) (rest : A → Coder → Read B) (value : A) (result : B) →
      Codes A source bits first value → Codes B source more (rest value) result →
      Codes B source (bits ++ more) (λ at. then_read (first at) rest) result
  then_codes A B bits more first rest value result codes codes_more at to later decided =
      let one = codes at to (more ++ later) (subst (λ (all : List Coded). AreDecided source at all to) (append_assoc bits more later) decided) in
      then_is_read A B (first at) rest value result one.next at to later one.got (codes_more one.next to later one.decided)

  -- the same, where the rest has no bits
  pub ends_codes : (A B : Type 0) (bits : List Coded) (first : Coder → Read A) (rest : A → Coder → Read B) (value : A) (result : B) →
      Codes A source bits first value → Codes B source [] (rest value) result → Codes B source bits (λ at. then_read (first at) rest) result
  ends_codes A B bits first rest value result codes codes_more at to later decided =
      let one = codes at to later decided in
      then_is_read A B (first at) rest value result one.next at to later one.got (codes_more one.next to later one.decided)

  pub checked_codes : (A : Type 0) (bits : List Coded) (given : Option FaultKind) (rest : Coder → Read A) (value : A) → given ≡ None →
      Codes A source bits rest value → Codes A source bits (λ at. checked given at rest) value
  checked_codes A bits given rest value e codes at to later decided =
      subst (λ (kind : Option FaultKind). IsRead A source (checked kind at rest) value later to) (sym e) (codes at to later decided)

  pub got_codes : (A : Type 0) (value : A) → Codes A source [] (λ at. Got value at) value
  got_codes A value at to later decided = record { next = at; got = refl; decided = decided }
