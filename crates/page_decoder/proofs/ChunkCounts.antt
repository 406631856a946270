-- What a chunk that ends adds: its drawing, if it brings one, and its decisions.
use Rattle.std.proofs.Common.{◌≡◌, ◌≢◌, ◌≤◌, ◌<◌, ◌+◌, ◌-◌, ◌^◌, ℕ, suc, min, true, false, Option, [], ◌∷◌, ◌++◌, refl, sym, ◌∙◌, arith}
use Rattle.std.proofs.lemmas.Bool.{true≢false}
use Rattle.std.proofs.lemmas.Grind.{common_steps}
use Rattle.djvu_base.specs.Meter.{ticked, TicksExactly}
use Rattle.layer_compose.specs.declared.layers.Layers.{Layers}
use Rattle.page_decoder.specs.Kinds.{ChunkKind, brings_drawing}
use Rattle.page_decoder.specs.Kinds as kind
use Rattle.page_decoder.specs.Read.{drawing_of, drawing_by}

-- ---- drawings

pub none_drawn : (of : ChunkKind) (chunks decisions : ℕ) (layers : Option Layers) → brings_drawing of ≡ false → drawing_by of chunks decisions layers ≡ []
none_drawn kind.Info chunks decisions layers b = absurd (true≢false b)
none_drawn kind.Include chunks decisions layers b = refl
none_drawn kind.Dictionary chunks decisions layers b = refl
none_drawn kind.Mask chunks decisions layers b = absurd (true≢false b)
none_drawn kind.Front chunks decisions layers b = absurd (true≢false b)
none_drawn kind.Back chunks decisions layers b = absurd (true≢false b)
none_drawn kind.Refused chunks decisions layers b = refl
none_drawn kind.Passed chunks decisions layers b = refl

pub one_drawn : (of : ChunkKind) (chunks decisions : ℕ) (layers : Option Layers) → brings_drawing of ≡ true
    → (drawing_by of chunks decisions layers ≡ drawing_of chunks decisions layers) × (of ≢ kind.Include)
one_drawn kind.Info chunks decisions layers b = (refl, λ e. cc)
one_drawn kind.Include chunks decisions layers b = absurd (true≢false (sym b))
one_drawn kind.Dictionary chunks decisions layers b = absurd (true≢false (sym b))
one_drawn kind.Mask chunks decisions layers b = (refl, λ e. cc)
one_drawn kind.Front chunks decisions layers b = (refl, λ e. cc)
one_drawn kind.Back chunks decisions layers b = (refl, λ e. cc)
one_drawn kind.Refused chunks decisions layers b = absurd (true≢false (sym b))
one_drawn kind.Passed chunks decisions layers b = absurd (true≢false (sym b))

-- ---- counts

pub both_ticks : (more all some before now : ℕ) → TicksExactly more 0 some → TicksExactly all 0 before → now ≡ ticked some before
    → TicksExactly (all + more) 0 now
both_ticks more all some before now a b e = grind (arith, common_steps)

pub both_within : (more all some before now : ℕ) → some ≤ ticked more 0 → TicksExactly all 0 before → now ≡ ticked some before → now ≤ ticked (all + more) 0
both_within more all some before now a b e = grind (arith, common_steps)

pub counted : (chunks all : ℕ) → chunks ≡ all → all < 2 ^ 31 → min (chunks + 1) (2 ^ 32 - 1) ≡ suc all
counted chunks all e few = grind (arith, common_steps)

pub small : (now most : ℕ) → now ≤ ticked most 0 → ticked 0 now ≡ now
small now most h = grind (arith, common_steps)
