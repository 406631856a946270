-- Chunks of a layer with more bytes.
use Rattle.std.specs.Prelude.{◌≡◌, ℕ, List, ◌++◌, length, ⊤}
use Rattle.zp_table.specs.declared.rows.Row.{Row}
use Rattle.zp_decoder.specs.States.{AreBelow}
use Rattle.iw44_image.specs.Header.{Opening, Short, Wrong, Opened}
use Rattle.iw44_image.specs.Layer.{Layer}

-- how the start of a chunk goes on: a refusal stays, and a header stays, with more ZP data behind it
abbrev pub OpenGrows : List ℕ → Opening → Opening → Type 0
OpenGrows more Short long = ⊤
OpenGrows more (Wrong kind) long = long ≡ Wrong kind
OpenGrows more (Opened header slices zp) long = long ≡ Opened header slices (zp ++ more)

-- the states of a layer's contexts are rows of a table
abbrev pub AreRows : List Row → Layer → Type 0
AreRows table layer =
    AreBelow (length table) layer.planes.y.states × (AreBelow (length table) layer.planes.b.states × AreBelow (length table) layer.planes.r.states)
