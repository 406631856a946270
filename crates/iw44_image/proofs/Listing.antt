-- Layers over a list of chunks.
use Rattle.std.proofs.Common.{◌≡◌, ℕ, ◌≤◌, Bool, false, List, [], ◌∷◌, ◌++◌, refl, ap, sym, ◌∙◌, subst, arith}
use Rattle.djvu_base.specs.declared.faults.FaultKind.{FaultKind}
use Rattle.zp_table.specs.declared.rows.Row.{Row}
use Rattle.zp_table.specs.Rows.{IsTable}
use Rattle.iw44_image.specs.Layer.{Allowed, Data, data_of, Layer, LayerReading, Answer, Done, Need, Fault, ends, after_chunk, read_chunk}
use Rattle.iw44_image.specs.Layer.{read_chunks, read_layer, new_layer}
use Rattle.iw44_image.specs.Growth.{AreRows}
use Rattle.iw44_image.proofs.Growing.{table_some, chunk_counts, chunk_rows, chunk_grows, chunk_refused, chunk_open}

-- what is read behind a chunk is read behind what is read behind it
behind : (answer : Answer) (layer : Layer) (whole first rest : Layer → LayerReading) →
    ((l : Layer) → whole l ≡ after_chunk (first l).answer (first l).layer rest) →
    after_chunk answer layer whole ≡ after_chunk (after_chunk answer layer first).answer (after_chunk answer layer first).layer rest
behind Done layer whole first rest e = e layer
behind Need layer whole first rest e = refl
behind (Fault kind) layer whole first rest e = refl

appended : (table : List Row) (allowed : Allowed) (chunks later : List Data) (layer : Layer) →
    read_chunks table allowed (chunks ++ later) layer ≡
    after_chunk (read_chunks table allowed chunks layer).answer (read_chunks table allowed chunks layer).layer (λ l. read_chunks table allowed later l)
appended table allowed [] later layer = refl
appended table allowed (given ∷ chunks) later layer =
    behind (read_chunk table allowed given layer).answer (read_chunk table allowed given layer).layer (λ l. read_chunks table allowed (chunks ++ later) l)
    (λ l. read_chunks table allowed chunks l) (λ l. read_chunks table allowed later l) (λ l. appended table allowed chunks later l)

pub layer_appended : (table : List Row) (allowed : Allowed) (chunks later : List Data) →
    read_layer table allowed (chunks ++ later) ≡ after_chunk (read_layer table allowed chunks).answer (read_layer table allowed chunks).layer
    (λ l. read_chunks table allowed later l)
layer_appended table allowed chunks later = appended table allowed chunks later new_layer

pub layer_done : (table : List Row) (allowed : Allowed) (chunks later : List Data) → (read_layer table allowed chunks).answer ≡ Done →
    read_layer table allowed (chunks ++ later) ≡ read_chunks table allowed later (read_layer table allowed chunks).layer
layer_done table allowed chunks later e =
    layer_appended table allowed chunks later ∙ ap (λ (a : Answer). after_chunk a (read_layer table allowed chunks).layer
    (λ l. read_chunks table allowed later l)) e

alone : (answer : Answer) (layer : Layer) → after_chunk answer layer (λ l. ends Done l) ≡ ends answer layer
alone Done layer = refl
alone Need layer = refl
alone (Fault kind) layer = refl

one_chunk : (table : List Row) (allowed : Allowed) (given : Data) (layer : Layer) → read_chunks table allowed
    (given ∷ []) layer ≡ read_chunk table allowed given layer
one_chunk table allowed given layer = alone (read_chunk table allowed given layer).answer (read_chunk table allowed given layer).layer

pub layer_last : (table : List Row) (allowed : Allowed) (chunks : List Data) (given : Data) → (read_layer table allowed chunks).answer ≡ Done →
    read_layer table allowed (chunks ++ given ∷ []) ≡ read_chunk table allowed given (read_layer table allowed chunks).layer
layer_last table allowed chunks given e = layer_done table allowed chunks (given ∷ []) e ∙ one_chunk table allowed given
    (read_layer table allowed chunks).layer

-- rows of the table, and decisions

rows_behind : (table : List Row) (answer : Answer) (layer : Layer) (rest : Layer → LayerReading) → AreRows table layer →
    ((l : Layer) → AreRows table l → AreRows table (rest l).layer) → AreRows table (after_chunk answer layer rest).layer
rows_behind table Done layer rest rows keeps = keeps layer rows
rows_behind table Need layer rest rows keeps = rows
rows_behind table (Fault kind) layer rest rows keeps = rows

chunks_rows : (table : List Row) (allowed : Allowed) (chunks : List Data) (layer : Layer) → IsTable table → AreRows table layer → AreRows table
    (read_chunks table allowed chunks layer).layer
chunks_rows table allowed [] layer is rows = rows
chunks_rows table allowed (given ∷ later) layer is rows =
    rows_behind table (read_chunk table allowed given layer).answer (read_chunk table allowed given layer).layer (λ l. read_chunks table allowed later l)
    (chunk_rows table allowed given layer is rows) (λ l r. chunks_rows table allowed later l is r)

pub layer_rows : (table : List Row) (allowed : Allowed) (chunks : List Data) → IsTable table → AreRows table (read_layer table allowed chunks).layer
layer_rows table allowed chunks is =
    let some = table_some table is in chunks_rows table allowed chunks new_layer is ((λ name. some), ((λ name. some), (λ name. some)))

counts_behind : (table : List Row) (n : ℕ) (answer : Answer) (layer : Layer) (rest : Layer → LayerReading) → AreRows table layer → n ≤ layer.decisions →
    ((l : Layer) → AreRows table l → l.decisions ≤ (rest l).layer.decisions) → n ≤ (after_chunk answer layer rest).layer.decisions
counts_behind table n Done layer rest rows low more = let h : layer.decisions ≤ (rest layer).layer.decisions = more layer rows in omega arith
counts_behind table n Need layer rest rows low more = low
counts_behind table n (Fault kind) layer rest rows low more = low

chunks_count : (table : List Row) (allowed : Allowed) (chunks : List Data) (layer : Layer) → IsTable table → AreRows table layer → layer.decisions ≤
    (read_chunks table allowed chunks layer).layer.decisions
chunks_count table allowed [] layer is rows = omega arith
chunks_count table allowed (given ∷ later) layer is rows =
    counts_behind table layer.decisions (read_chunk table allowed given layer).answer (read_chunk table allowed given layer).layer
    (λ l. read_chunks table allowed later l)
    (chunk_rows table allowed given layer is rows) (chunk_counts table allowed given layer is rows) (λ l r. chunks_count table allowed later l is r)

pub layer_counts : (table : List Row) (allowed : Allowed) (chunks later : List Data) → IsTable table →
    (read_layer table allowed chunks).layer.decisions ≤ (read_layer table allowed (chunks ++ later)).layer.decisions
layer_counts table allowed chunks later is =
    subst (λ (r : LayerReading). (read_layer table allowed chunks).layer.decisions ≤ r.layer.decisions) (sym (layer_appended table allowed chunks later))
    (counts_behind table (read_layer table allowed chunks).layer.decisions (read_layer table allowed chunks).answer (read_layer table allowed chunks).layer
    (λ l. read_chunks table allowed later l) (layer_rows table allowed chunks is) (omega arith) (λ l r. chunks_count table allowed later l is r))

-- more bytes in the last chunk

-- a layer's last chunk is read behind the others
last_is : (table : List Row) (allowed : Allowed) (chunks : List Data) (given : Data) →
    read_layer table allowed (chunks ++ given ∷ []) ≡
    after_chunk (read_layer table allowed chunks).answer (read_layer table allowed chunks).layer (λ l. read_chunks table allowed (given ∷ []) l)
last_is table allowed chunks given = layer_appended table allowed chunks (given ∷ [])

refused_behind : (answer : Answer) (layer : Layer) (kind : FaultKind) (short long : Layer → LayerReading) →
    ((l : Layer) → (short l).answer ≡ Fault kind → long l ≡ short l) →
    (after_chunk answer layer short).answer ≡ Fault kind → after_chunk answer layer long ≡ after_chunk answer layer short
refused_behind Done layer kind short long same e = same layer e
refused_behind Need layer kind short long same e = refl
refused_behind (Fault other) layer kind short long same e = refl

one_refused : (table : List Row) (allowed : Allowed) (bytes more : List ℕ) (ended : Bool) (kind : FaultKind) (layer : Layer) →
    (read_chunks table allowed (data_of bytes false ∷ []) layer).answer ≡ Fault kind →
    read_chunks table allowed (data_of (bytes ++ more) ended ∷ []) layer ≡ read_chunks table allowed (data_of bytes false ∷ []) layer
one_refused table allowed bytes more ended kind layer e =
    one_chunk table allowed (data_of (bytes ++ more) ended) layer
    ∙ chunk_refused table allowed bytes more ended layer kind (sym
    (ap (λ (r : LayerReading). r.answer) (one_chunk table allowed (data_of bytes false) layer)) ∙ e)
    ∙ sym (one_chunk table allowed (data_of bytes false) layer)

pub last_refused : (table : List Row) (allowed : Allowed) (chunks : List Data) (bytes more : List ℕ) (ended : Bool) (kind : FaultKind) →
    (read_layer table allowed (chunks ++ data_of bytes false ∷ [])).answer ≡ Fault kind →
    read_layer table allowed (chunks ++ data_of (bytes ++ more) ended ∷ []) ≡ read_layer table allowed (chunks ++ data_of bytes false ∷ [])
last_refused table allowed chunks bytes more ended kind e =
    last_is table allowed chunks (data_of (bytes ++ more) ended)
    ∙ refused_behind (read_layer table allowed chunks).answer (read_layer table allowed chunks).layer kind
    (λ l. read_chunks table allowed (data_of bytes false ∷ []) l)
    (λ l. read_chunks table allowed (data_of (bytes ++ more) ended ∷ []) l) (one_refused table allowed bytes more ended kind)
    (sym (ap (λ (r : LayerReading). r.answer) (last_is table allowed chunks (data_of bytes false))) ∙ e)
    ∙ sym (last_is table allowed chunks (data_of bytes false))

open_behind : (answer : Answer) (layer : Layer) (rest : Layer → LayerReading) → ((l : Layer) → (rest l).answer ≡ Done → ⊥) →
    (after_chunk answer layer rest).answer ≡ Done → ⊥
open_behind Done layer rest never e = never layer e
open_behind Need layer rest never e = cc
open_behind (Fault kind) layer rest never e = cc

pub last_open : (table : List Row) (allowed : Allowed) (chunks : List Data) (bytes : List ℕ) →
    (read_layer table allowed (chunks ++ data_of bytes false ∷ [])).answer ≡ Done → ⊥
last_open table allowed chunks bytes e =
    open_behind (read_layer table allowed chunks).answer (read_layer table allowed chunks).layer (λ l. read_chunks table allowed (data_of bytes false ∷ []) l)
    (λ l d. chunk_open table allowed bytes l (sym (ap (λ (r : LayerReading). r.answer) (one_chunk table allowed (data_of bytes false) l)) ∙ d))
    (sym (ap (λ (r : LayerReading). r.answer) (last_is table allowed chunks (data_of bytes false))) ∙ e)

grows_behind : (table : List Row) (answer : Answer) (layer : Layer) (short long : Layer → LayerReading) → AreRows table layer →
    ((l : Layer) → AreRows table l → (short l).layer.decisions ≤ (long l).layer.decisions) → (after_chunk answer layer short).layer.decisions ≤
    (after_chunk answer layer long).layer.decisions
grows_behind table Done layer short long rows more = more layer rows
grows_behind table Need layer short long rows more = omega arith
grows_behind table (Fault kind) layer short long rows more = omega arith

one_grows : (table : List Row) (allowed : Allowed) (bytes more : List ℕ) (ended : Bool) (layer : Layer) → IsTable table → AreRows table layer →
    (read_chunks table allowed (data_of bytes false ∷ []) layer).layer.decisions ≤
    (read_chunks table allowed (data_of (bytes ++ more) ended ∷ []) layer).layer.decisions
one_grows table allowed bytes more ended layer is rows =
    let short = ap (λ (r : LayerReading). r.layer.decisions) (one_chunk table allowed (data_of bytes false) layer) in
    let long = ap (λ (r : LayerReading). r.layer.decisions) (one_chunk table allowed (data_of (bytes ++ more) ended) layer) in
    let grows = chunk_grows table allowed bytes more ended layer is rows in
    omega arith

pub last_grows : (table : List Row) (allowed : Allowed) (chunks : List Data) (bytes more : List ℕ) (ended : Bool) → IsTable table →
    (read_layer table allowed (chunks ++ data_of bytes false ∷ [])).layer.decisions ≤
    (read_layer table allowed (chunks ++ data_of (bytes ++ more) ended ∷ [])).layer.decisions
last_grows table allowed chunks bytes more ended is =
    let short = ap (λ (r : LayerReading). r.layer.decisions) (last_is table allowed chunks (data_of bytes false)) in
    let long = ap (λ (r : LayerReading). r.layer.decisions) (last_is table allowed chunks (data_of (bytes ++ more) ended)) in
    let grows = grows_behind table (read_layer table allowed chunks).answer (read_layer table allowed chunks).layer
    (λ l. read_chunks table allowed (data_of bytes false ∷ []) l) (λ l. read_chunks table allowed (data_of (bytes ++ more) ended ∷ []) l)
    (layer_rows table allowed chunks is) (λ l r. one_grows table allowed bytes more ended l is r) in
    omega arith
