-- Layers in an open chunk: what the reader answers is what the chunk's data come to.
use Rattle.std.proofs.Common.{◌≡◌, ◌≢◌, ℕ, zero, suc, ◌-◌, ◌<◌, ◌≤◌, Bool, false, nat_eq, Some, List, [], ◌∷◌, ◌++◌, refl, sym, ap, ◌∙◌, subst, arith}
use Rattle.std.proofs.lemmas.Grind.{common_steps}
use Rattle.djvu_base.specs.Meter.{ticked, TicksExactly}
use Rattle.djvu_base.specs.Picture.{Picture}
use Rattle.zp_table.specs.declared.rows.Row.{Row}
use Rattle.iw44_image.specs.Layer.{Data, LayerReading, Answer, data_of, read_layer}
use Rattle.iw44_image.specs.Layer as iw44
use Rattle.iw44_image.specs.Image.{is_whole}
use Rattle.layer_compose.specs.declared.layers.Layers.{Layers}
use Rattle.page_decoder.specs.declared.open_chunks.OpenStep.{OpenStep}
use Rattle.page_decoder.specs.declared.open_chunks.OpenStep.TheVariants as step
use Rattle.page_decoder.specs.Kinds.{ChunkKind}
use Rattle.page_decoder.specs.Kinds as kind
use Rattle.page_decoder.specs.PageRead.{Decoded}
use Rattle.page_decoder.specs.ChunkData.{front_limit, allowed_by, allowed_on, picture_in, layer_outcome, layer_by, with_front, front_came, came_by}
use Rattle.page_decoder.specs.LayerState.{LayerState, Lays, reading_of, reading_with, decisions_with}
use Rattle.page_decoder.specs.Opened.{ReadsLayer, Answers, AdvancesTo, LayerAnswers}

-- the reading of some chunks on a page
abbrev on_page : List Row → Layers → ℕ → List Data → LayerReading
on_page table layers limit chunks = read_layer table (allowed_on layers limit) chunks

module _ (wanted of : ChunkKind) (limit : ℕ) (chunks : List Data) (table : List Row) (decoded : Decoded) (bytes : List ℕ) (to_come : ℕ) (it : LayerState)
    (reads : ReadsLayer wanted of limit chunks table decoded bytes to_come it) where
  pub reading_so : (others : List Data) → reading_of it others ≡ on_page table reads.layers limit others
  reading_so others =
      ap (λ t. read_layer t (allowed_by it.page it.image.limit) others) reads.table_is
      ∙ ap (λ p. read_layer table (allowed_by p it.image.limit) others) reads.page_is
      ∙ ap (λ l. read_layer table (allowed_by (reads.layers.width, reads.layers.height) l) others) reads.limit_is

  pub with_so : (ended : Bool) → nat_eq to_come 0 ≡ ended
      → reading_with it chunks bytes ≡ on_page table reads.layers limit (chunks ++ data_of bytes ended ∷ [])
  with_so ended e =
      ap (λ c. reading_of it (chunks ++ data_of bytes (is_whole c) ∷ [])) reads.to_come_is
      ∙ ap (λ w. reading_of it (chunks ++ data_of bytes w ∷ [])) e
      ∙ reading_so (chunks ++ data_of bytes ended ∷ [])

more_to_come : (left : ℕ) → 0 < left → nat_eq left 0 ≡ false
more_to_come zero lt = absurd (omega arith)
more_to_come (suc left) lt = grind (arith, common_steps)

-- the definition's answer by that of the reader
abbrev IsAnswer : OpenStep → Answer → Type 0
IsAnswer step.NeedBytes answer = answer ≡ iw44.Need
IsAnswer (step.Refused kind) answer = answer ≡ iw44.Fault kind
IsAnswer step.OutOfMemory answer = Unit {0}

answers_as : (result : OpenStep) (r : LayerReading) (before : ℕ) (given : Data) (leaves : Picture → Decoded) → IsAnswer result r.answer
    → Answers result (layer_by r before given leaves).outcome
answers_as step.NeedBytes r before given leaves e = ap (λ a. layer_outcome a given (leaves (picture_in r.layer))) e
answers_as (step.Refused kind) r before given leaves e = ap (λ a. layer_outcome a given (leaves (picture_in r.layer))) e
answers_as step.OutOfMemory r before given leaves e = tt

is_answer : (result : OpenStep) (chunks : List Data) (bytes : List ℕ) (o n : LayerState) → LayerAnswers result chunks bytes o n
    → IsAnswer result (reading_with o chunks bytes).answer
is_answer step.NeedBytes chunks bytes o n e = e.0
is_answer (step.Refused kind) chunks bytes o n e = e
is_answer step.OutOfMemory chunks bytes o n e = tt

-- what the reader of a layer answered
pub record HasAdvanced (result : OpenStep) (o n : LayerState) : Type 0 where
  pub answers : (chunks : List Data) (bytes : List ℕ) → Lays chunks bytes o → LayerAnswers result chunks bytes o n
  pub decisions : (chunks : List Data) (bytes : List ℕ) → Lays chunks bytes o → result ≢ step.OutOfMemory
      → TicksExactly (decisions_with o chunks bytes) 0 n.decisions
  pub at_most : (chunks : List Data) (bytes : List ℕ) → Lays chunks bytes o → n.decisions ≤ ticked (decisions_with o chunks bytes) 0

advances_as : (result : OpenStep) (o n : LayerState) (chunks : List Data) (bytes : List ℕ) (r : LayerReading) (before : ℕ) (given : Data)
    (leaves : Picture → Decoded) → HasAdvanced result o n → Lays chunks bytes o → reading_with o chunks bytes ≡ r
    → (reading_of o chunks).layer.decisions ≡ before → AdvancesTo result (layer_by r before given leaves) n.decisions
advances_as result o n chunks bytes r before given leaves has lays is start =
    let count : decisions_with o chunks bytes ≡ r.layer.decisions - before =
    ap (λ (x : LayerReading). x.layer.decisions - (reading_of o chunks).layer.decisions) is ∙ ap (λ b. r.layer.decisions - b) start in
    record {
      answers = answers_as result r before given leaves
          (subst (λ (x : LayerReading). IsAnswer result x.answer) is (is_answer result chunks bytes o n (has.answers chunks bytes lays)));
      all = λ some. subst (λ d. TicksExactly d 0 n.decisions) count (has.decisions chunks bytes lays some);
      at_most = subst (λ d. n.decisions ≤ ticked d 0) count (has.at_most chunks bytes lays);
    }

pub front_advances : (result : OpenStep) (o n : LayerState) (of : ChunkKind) (table : List Row) (decoded : Decoded) (bytes : List ℕ) (left offset : ℕ)
    → HasAdvanced result o n → ReadsLayer kind.Front of front_limit [] table decoded bytes left o → 0 < left
    → AdvancesTo result (came_by of table (data_of bytes false) offset decoded) n.decisions
front_advances result o n of table decoded bytes left offset has reads lt =
    let given : Data = data_of bytes false in
    let start : (reading_of o []).layer.decisions ≡ 0 = refl in
    let all : AdvancesTo result (front_came (Some reads.layers) table given decoded) n.decisions =
    advances_as result o n [] bytes (on_page table reads.layers front_limit (given ∷ [])) 0 given (with_front reads.layers decoded) has reads.lays
    (with_so kind.Front of front_limit [] table decoded bytes left o reads false (more_to_come left lt)) start in
    subst (λ k. AdvancesTo result (came_by k table given offset decoded) n.decisions) (sym reads.is_kind)
    (subst (λ l. AdvancesTo result (front_came l table given decoded) n.decisions) (sym reads.sized) all)
