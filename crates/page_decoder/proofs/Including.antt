-- What an included file includes, by its outline and by its reading.
use Rattle.std.proofs.Common.{◌≡◌, ℕ, Bool, true, false, cond, ◌||◌, Option, Some, None, List, [], ◌∷◌, refl, sym, ap, ◌∙◌, subst}
use Rattle.std.specs.List.{AllByRecursion, Contains}
use Rattle.djvu_base.specs.declared.faults.FaultKind.{FaultKind}
use Rattle.djvu_base.specs.Library.{Mark}
use Rattle.iff_chunks.specs.Chunks.{Chunk, Tail, InHead, InHeader, InData, InPad, FormEnd, Broken, chunks_of}
use Rattle.iff_chunks.specs.Ends.{file_end}
use Rattle.include_graph.specs.declared.outline.Outline.{Outline}
use Rattle.include_graph.specs.declared.outline.OutlineItem.{OutlineItem}
use Rattle.include_graph.specs.declared.outline.OutlineItem.TheVariants as item
use Rattle.include_graph.specs.Included.{chunk_fault, is_dictionary, is_include, include_name}
use Rattle.include_graph.specs.Outlines.{Items, unless_faulty, items_at_end, items_at_tail, named_then, chunk_then, items_in, form_fault, outlined}
use Rattle.page_decoder.specs.Given.{Given}
use Rattle.page_decoder.specs.Needs.{HasNoFault, IsOutlined}
use Rattle.page_decoder.proofs.Ruling.{first_in, later_in}

abbrev IsClean : Items → Type 0
IsClean it = (it.is_known ≡ true) × HasNoFault it.items

unless_is : (found : Option FaultKind) (offset : ℕ) (items : Items) → IsClean (unless_faulty found offset items) → unless_faulty found offset items ≡ items
unless_is None offset items clean = refl
unless_is (Some kind) offset items clean = absurd clean.1

-- an include is one of a list of items
abbrev pub IsItem : List OutlineItem → Chunk → Type 0
IsItem list chunk = is_include chunk.id ≡ true → (name : List ℕ) → include_name chunk.bytes ≡ Some name → Contains list (item.Include name chunk.offset)

abbrev Among : List OutlineItem → List OutlineItem → Type 0
Among items list = (x : OutlineItem) → Contains items x → Contains list x

record Rest (list : List OutlineItem) (chunk : Chunk) (items : Items) : Type 0 where
  clean : IsClean items
  among : Among items.items list
  is_item : IsItem list chunk

named_rest : (list : List OutlineItem) (chunk : Chunk) (items : Items) (found : Option (List ℕ)) → include_name chunk.bytes ≡ found
    → IsClean (named_then found chunk.offset items) → Among (named_then found chunk.offset items).items list → Rest list chunk items
named_rest list chunk items None n clean among = absurd clean.1
named_rest list chunk items (Some name) n clean among = record {
  clean = clean;
  among = λ x h. among x (later_in (item.Include name chunk.offset) x items.items h);
  is_item = λ is other m.
      let both : Some name ≡ Some other = sym n ∙ m in
      let same : name ≡ other = cc in
      subst (λ w. Contains list (item.Include w chunk.offset)) same
      (among (item.Include name chunk.offset) (first_in (item.Include name chunk.offset) items.items));
}

chunk_rest : (list : List OutlineItem) (chunk : Chunk) (items : Items) (include : Bool) → is_include chunk.id ≡ include
    → IsClean (cond include (named_then (include_name chunk.bytes) chunk.offset items) items)
    → Among (cond include (named_then (include_name chunk.bytes) chunk.offset items) items).items list → Rest list chunk items
chunk_rest list chunk items true i clean among = named_rest list chunk items (include_name chunk.bytes) refl clean among
chunk_rest list chunk items false i clean among =
    record { clean = clean; among = among; is_item = λ is name m. let wrong : false ≡ true = sym i ∙ is in absurd (cc) }

-- complete chunks, and what the rest of the file gives
record Listed (list : List OutlineItem) (whole : List Chunk) (rest : Bool → Items) : Type 0 where
  all : AllByRecursion (IsItem list) whole
  has : Bool
  clean : IsClean (rest has)

listed : (list : List OutlineItem) (rest : Bool → Items) (has : Bool) (whole : List Chunk) → IsClean (items_in rest has whole)
    → Among (items_in rest has whole).items list → Listed list whole rest
listed list rest has [] clean among = record { all = tt; has = has; clean = clean }
listed list rest has (chunk ∷ whole) clean among =
    let others = items_in rest (has || is_dictionary chunk.id) whole in
    let inner = chunk_then chunk others in
    let same : items_in rest has (chunk ∷ whole) ≡ inner = unless_is (chunk_fault has chunk.id) chunk.offset inner clean in
    let here = chunk_rest list chunk others (is_include chunk.id) refl (subst IsClean same clean) (subst (λ (i : Items). Among i.items list) same among) in
    let behind = listed list rest (has || is_dictionary chunk.id) whole here.clean here.among in
    record { all = (here.is_item, behind.all); has = behind.has; clean = behind.clean }

tail_clean : (tail : Tail) (ended : Items) (has : Bool) → IsClean (items_at_tail tail ended has) → IsClean ended
tail_clean InHead ended has clean = clean
tail_clean (InHeader offset bytes) ended has clean = clean
tail_clean (InData chunk) ended has clean = subst IsClean (unless_is (chunk_fault has chunk.id) chunk.offset ended clean) clean
tail_clean (InPad offset is_last) ended has clean = clean
tail_clean FormEnd ended has clean = clean
tail_clean (Broken kind offset) ended has clean = clean

end_clean : (tail : Tail) → IsClean (items_at_end tail) → tail ≡ FormEnd
end_clean InHead clean = let wrong : false ≡ true = clean.0 in absurd (cc)
end_clean (InHeader offset bytes) clean = let wrong : false ≡ true = clean.0 in absurd (cc)
end_clean (InData chunk) clean = let wrong : false ≡ true = clean.0 in absurd (cc)
end_clean (InPad offset is_last) clean = let wrong : false ≡ true = clean.0 in absurd (cc)
end_clean FormEnd clean = refl
end_clean (Broken kind offset) clean = absurd clean.1

-- the file of an outline without a fault: each of its includes is an item, and its FORM has ended
pub record Outlined (mark : Mark) (bytes : List ℕ) (outline : Outline) : Type 0 where
  pub all : AllByRecursion (IsItem outline.items) (chunks_of bytes).whole
  pub over : file_end mark bytes ≡ FormEnd

known_by : (items : Items) (known : Bool) (outline : Outline) → items.is_known ≡ known → cond known (Some (record { items = items.items })) None ≡ Some outline
    → (items.is_known ≡ true) × (items.items ≡ outline.items)
known_by items true outline k e =
    let some : Some (record { items = items.items }) ≡ Some outline = e in
    let same : record { items = items.items } ≡ outline = cc in (k, ap (λ (o : Outline). o.items) same)
known_by items false outline k e = let wrong : None ≡ Some outline = e in absurd (cc)

pub outlined_so : (given : Given) (outline : Outline) → IsOutlined given outline → Outlined given.mark given.bytes outline
outlined_so given outline it =
    let bytes = given.bytes in
    let items = outlined given.mark bytes in
    let known = known_by items items.is_known outline refl it.known in
    let clean : IsClean items = (known.0, subst HasNoFault (sym known.1) it.clean) in
    let tail = (chunks_of bytes).tail in
    let ended = items_at_end (file_end given.mark bytes) in
    let inner = items_in (items_at_tail tail ended) false (chunks_of bytes).whole in
    let same : items ≡ inner = unless_is (form_fault (chunks_of bytes).form) 0 inner clean in
    let all = listed outline.items (items_at_tail tail ended) false (chunks_of bytes).whole (subst IsClean same clean)
    (λ x h. subst (λ l. Contains l x) (ap (λ (i : Items). i.items) (sym same) ∙ known.1) h) in
    record { all = all.all; over = end_clean (file_end given.mark bytes) (tail_clean tail ended all.has all.clean) }
