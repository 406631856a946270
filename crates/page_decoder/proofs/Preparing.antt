-- Behind the chunks of a page, a header that is right finds what its chunk wants.
use Rattle.std.proofs.Common.{◌≡◌, ◌≢◌, ◌<◌, ◌≤◌, ℕ, Bool, true, false, cond, ltb, Option, Some, None, List, [], ◌∷◌, ◌++◌, length, refl, sym, ap, ◌∙◌, subst, arith}
use Rattle.std.proofs.lemmas.Bool.{ltb-false}
use Rattle.djvu_base.specs.declared.faults.FaultKind.TheVariants as fault
use Rattle.zp_table.specs.declared.rows.Row.{Row}
use Rattle.iw44_image.specs.Layer.{Data, read_layer}
use Rattle.iw44_image.specs.Layer as iw44
use Rattle.layer_compose.specs.declared.layers.Layers.{Layers}
use Rattle.include_graph.specs.Verdicts.{number_of}
use Rattle.page_decoder.specs.Reading.{with_mask}
use Rattle.page_decoder.specs.Kinds.{ChunkKind, kind_of}
use Rattle.page_decoder.specs.Kinds as kind
use Rattle.page_decoder.specs.Given.{Page, Home, Known}
use Rattle.page_decoder.specs.PageRead.{Ending, Decoded, Left, at_start}
use Rattle.page_decoder.specs.Headers.{Head, first_fault, page_fault, header_fault}
use Rattle.page_decoder.specs.ChunkData.{back_limit, allowed_on}
use Rattle.page_decoder.specs.Acts.{Act}
use Rattle.page_decoder.specs.Read.{On, at_header, step_through}
use Rattle.page_decoder.specs.Needs.{HasBefore}
use Rattle.page_decoder.proofs.Leaving.{Brings, brings}
use Rattle.page_decoder.proofs.Limiting.{KindSo, layers_are, begun as kind_begun}
use Rattle.page_decoder.proofs.Showing.{begun as first_begun}
use Rattle.page_decoder.proofs.Ruling.{Rules, Holds, through_holds, header_holds, any_chunk, any_include, any_acts, any_includes}

abbrev HasLayers : Option Layers → Type 0
HasLayers found = (layers : Layers) × (found ≡ Some layers)

-- the background was read so far
abbrev BackDone : List Row → Option Layers → List Data → Type 0
BackDone table found back = (layers : Layers) → found ≡ Some layers → (read_layer table (allowed_on layers back_limit) back).answer ≡ iw44.Done

abbrev BackIn : List Row → Decoded → Type 0
BackIn table decoded = BackDone table decoded.layers decoded.back

-- what chunks do to both

layers_after : (of : ChunkKind) (table : List Row) (given : Data) (offset : ℕ) (before after : Decoded) → Brings of table given offset before after
    → (of ≢ kind.Info → HasLayers before.layers) → HasLayers after.layers
layers_after kind.Info table given offset before after b i = (_, ap (λ (d : Decoded). d.layers) b.3)
layers_after kind.Include table given offset before after b i = let has = i (λ e. cc) in (has.0, ap (λ (d : Decoded). d.layers) b.3 ∙ has.1)
layers_after kind.Dictionary table given offset before after b i = let has = i (λ e. cc) in (has.0, ap (λ (d : Decoded). d.layers) b.1 ∙ has.1)
layers_after kind.Mask table given offset before after b i = (_, ap (λ (d : Decoded). d.layers) b.3)
layers_after kind.Front table given offset before after b i = (_, ap (λ (d : Decoded). d.layers) b.3)
layers_after kind.Back table given offset before after b i = (_, ap (λ (d : Decoded). d.layers) b.4)
layers_after kind.Refused table given offset before after b i = let has = i (λ e. cc) in (has.0, ap (λ (d : Decoded). d.layers) b ∙ has.1)
layers_after kind.Passed table given offset before after b i = let has = i (λ e. cc) in (has.0, ap (λ (d : Decoded). d.layers) b ∙ has.1)

laid_over : (table : List Row) (before : Decoded) (layers laid : Layers) → before.layers ≡ Some layers
    → allowed_on laid back_limit ≡ allowed_on layers back_limit → BackIn table before → BackDone table (Some laid) before.back
laid_over table before layers laid l same i now e =
    subst (λ x. (read_layer table (allowed_on x back_limit) before.back).answer ≡ iw44.Done) (layers_are laid now e)
    (subst (λ a. (read_layer table a before.back).answer ≡ iw44.Done) (sym same) (i layers l))

back_after : (of : ChunkKind) (table : List Row) (given : Data) (offset : ℕ) (before after : Decoded) → Brings of table given offset before after
    → (of ≡ kind.Info → before.back ≡ []) → BackIn table before → BackIn table after
back_after kind.Info table given offset before after b empty i =
    subst (BackIn table) (sym b.3)
    (λ layers e. subst (λ back. (read_layer table (allowed_on layers back_limit) back).answer ≡ iw44.Done) (sym (empty refl)) refl)
back_after kind.Include table given offset before after b empty i = subst (BackIn table) (sym b.3) i
back_after kind.Dictionary table given offset before after b empty i = subst (BackIn table) (sym b.1) i
back_after kind.Mask table given offset before after b empty i =
    subst (BackIn table) (sym b.3) (laid_over table before b.0 (with_mask b.0 b.1) b.2 refl i)
back_after kind.Front table given offset before after b empty i =
    subst (BackIn table) (sym b.3) (laid_over table before b.0 (record b.0 { front = Some b.1 }) b.2 refl i)
back_after kind.Back table given offset before after b empty i =
    subst (BackIn table) (sym b.4)
    (λ now e. subst (λ l. (read_layer table (allowed_on l back_limit) (before.back ++ given ∷ [])).answer ≡ iw44.Done)
    (layers_are (record b.0 { back = Some b.1 }) now e) b.3)
back_after kind.Refused table given offset before after b empty i = subst (BackIn table) (sym b) i
back_after kind.Passed table given offset before after b empty i = subst (BackIn table) (sym b) i

-- between chunks of a page, and behind a header that is right

record Prepared (table : List Row) (at : Option Head) (chunks : ℕ) (layers : Option Layers) (read : List Data) : Type 0 where
  empty : chunks ≡ 0 → read ≡ []
  some : chunks ≢ 0 → HasLayers layers
  back : BackDone table layers read
  by_kind : (head : Head) → at ≡ Some head → KindSo (kind_of head.id) chunks layers
  first : (head : Head) → at ≡ Some head → chunks ≡ 0 → kind_of head.id ≡ kind.Info
  long : (head : Head) → at ≡ Some head → kind_of head.id ≡ kind.Info → 5 ≤ head.size

abbrev IsPrepared : Home → Option Head → Left → Type 0
IsPrepared home at left = home.role ≡ Page → Prepared home.table at left.chunks left.decoded.layers left.decoded.back

abbrev AnyEnd : Left → Ending → Type 0
AnyEnd left end = Unit {0}

long_first : (of : ChunkKind) (size : ℕ) → of ≡ kind.Info → first_fault of size ≡ None → 5 ≤ size
long_first of size o e = by (ltb size 5) refl (subst (λ k. first_fault k size ≡ None) o e)
  where
    by : (short : Bool) → ltb size 5 ≡ short → cond short (Some fault.BadInfo) None ≡ None → 5 ≤ size
    by true s e = absurd (cc)
    by false s e = ltb-false size 5 s

long_begun : (home : Home) (head : Head) (left : Left) → header_fault home.role left head ≡ None → home.role ≡ Page
    → KindSo (kind_of head.id) left.chunks left.decoded.layers → (other : Head) → Some head ≡ Some other → kind_of other.id ≡ kind.Info → 5 ≤ other.size
long_begun home head left e page so other s o =
    let same : head ≡ other = cc in
    let is : kind_of head.id ≡ kind.Info = ap (λ (h : Head). kind_of h.id) same ∙ o in
    let none : left.chunks ≡ 0 = subst (λ k. KindSo k left.chunks left.decoded.layers) is so in
    let right = subst (λ n. page_fault n left.decoded head ≡ None) none (subst (λ r. header_fault r left head ≡ None) page e) in
    subst (λ (h : Head). 5 ≤ h.size) same (long_first (kind_of head.id) head.size is right)

rules : (home : Home) (known : Known) → Rules home known any_chunk any_include (IsPrepared home) AnyEnd
rules home known = record {
  begins = λ head left e i page. record {
    empty = (i page).empty;
    some = (i page).some;
    back = (i page).back;
    by_kind = kind_begun home head left e page;
    first = λ other s none. first_begun home head left e other s page none;
    long = long_begun home head left e page (kind_begun home head left e page head refl);
  };
  chunk = λ head given decoded left f e i page.
      let b = brings (kind_of head.id) home.table given head.offset left.decoded decoded e in
      record {
        empty = λ n. absurd (cc);
        some = λ n. layers_after (kind_of head.id) home.table given head.offset left.decoded decoded b
            (λ other. (i page).some (λ none. other ((i page).first head refl none)));
        back = back_after (kind_of head.id) home.table given head.offset left.decoded decoded b
            (λ is. (i page).empty (subst (λ k. KindSo k left.chunks left.decoded.layers) is ((i page).by_kind head refl))) (i page).back;
        by_kind = λ other none. absurd (cc);
        first = λ other none. absurd (cc);
        long = λ other none. absurd (cc);
      };
  part = λ head n left i page. record {
    empty = (i page).empty;
    some = (i page).some;
    back = (i page).back;
    by_kind = λ other none. absurd (cc);
    first = λ other none. absurd (cc);
    long = λ other none. absurd (cc);
  };
  wrong = λ head n kind offset left i. tt;
  pending = λ at left i. any_includes left.decoded.pending;
  reaches = λ at left file it e i. i;
  inherits = λ at found left i. i;
  none_left = λ at left i. i;
  unknown = λ at left file u i. tt;
  lacks = λ at left file next n i. tt;
  graph_fault = λ at left target fault b v i. tt;
  file_fault = λ at left file fault target before others below v e i. tt;
  own_fault = λ at kind offset left i. tt;
  finishes = λ left some i. tt;
}

-- what the chunk wants, by its kind

not_first : (of : ChunkKind) (table : List Row) (head : Head) (chunks : ℕ) (layers : Option Layers) (read : List Data) → kind_of head.id ≡ of
    → of ≢ kind.Info → Prepared table (Some head) chunks layers read → HasLayers layers
not_first of table head chunks layers read o other i = i.some (λ none. other (sym o ∙ i.first head refl none))

ready_by : (of : ChunkKind) (table : List Row) (head : Head) (bytes : List ℕ) (chunks : ℕ) (decoded : Decoded) → kind_of head.id ≡ of
    → length bytes ≡ head.size → Prepared table (Some head) chunks decoded.layers decoded.back → HasBefore of table bytes decoded
ready_by kind.Info table head bytes chunks decoded o l i = let long = i.long head refl o in omega (arith, long, l)
ready_by kind.Include table head bytes chunks decoded o l i = tt
ready_by kind.Dictionary table head bytes chunks decoded o l i = tt
ready_by kind.Mask table head bytes chunks decoded o l i = not_first kind.Mask table head chunks decoded.layers decoded.back o (λ e. cc) i
ready_by kind.Front table head bytes chunks decoded o l i = not_first kind.Front table head chunks decoded.layers decoded.back o (λ e. cc) i
ready_by kind.Back table head bytes chunks decoded o l i =
    let has = not_first kind.Back table head chunks decoded.layers decoded.back o (λ e. cc) i in (has.0, has.1, i.back has.0 has.1)
ready_by kind.Refused table head bytes chunks decoded o l i = tt
ready_by kind.Passed table head bytes chunks decoded o l i = tt

pub page_ready : (home : Home) (known : Known) → ((name : List ℕ) (target : ℕ) → number_of name home.names ≡ Some target → target < length home.names)
    → (acts : List Act) (left now : Left) (head : Head) (bytes : List ℕ) → home.role ≡ Page → step_through home known acts at_start ≡ On left
    → at_header home known head (header_fault home.role left head) left ≡ On now → length bytes ≡ head.size
    → HasBefore (kind_of head.id) home.table bytes now.decoded
page_ready home known below acts left now head bytes page through header size =
    let start : IsPrepared home None at_start = λ p. record {
      empty = λ n. refl;
      some = λ n. absurd (n refl);
      back = λ layers e. absurd (cc);
      by_kind = λ other none. absurd (cc);
      first = λ other none. absurd (cc);
      long = λ other none. absurd (cc);
    } in
    let here = through_holds home known any_chunk any_include (IsPrepared home) AnyEnd (rules home known) below acts at_start (any_acts acts) start in
    let behind = header_holds home known any_chunk any_include (IsPrepared home) AnyEnd (rules home known) below head
    (header_fault home.role left head) left refl (subst (Holds (IsPrepared home) AnyEnd None) through here) in
    ready_by (kind_of head.id) home.table head bytes now.chunks now.decoded refl size
    (subst (Holds (IsPrepared home) AnyEnd (Some head)) header behind page)
