use Rattle.std.proofs.Common.{◌≡◌, Some, [], sym, ◌∙◌, subst}
use Rattle.std.specs.Prelude.{IsSome}
use Rattle.std.specs.Arc.{arc_value}
use Rattle.page_decoder.specs.Kinds.{ChunkKind, kind_of}
use Rattle.page_decoder.specs.Kinds as kind
use Rattle.page_decoder.specs.Kept.{IsReady, IsBehind}
use Rattle.page_decoder.proofs.Laying.{some_of}
use Rattle.page_decoder.proofs.kept.Kept.reader_for.Goals as goal

pub returns-in_ok-reader-in-Dictionary-clause-begins : goal.returns-in_ok-reader-in-Dictionary-clause-begins
returns-in_ok-reader-in-Dictionary-clause-begins c decoded keeps inherited =
    let of_is : kind_of c.args.head.id ≡ kind.Dictionary = sym c.of.ensures ∙ c.in-Dictionary.is in
    (record { is_kind = of_is; records = c.in_ok-reader-in-Dictionary.ensures.reads decoded keeps inherited }, keeps.background)

pub returns-in_ok-reader-in-Mask-clause-begins : goal.returns-in_ok-reader-in-Mask-clause-begins
returns-in_ok-reader-in-Mask-clause-begins c decoded keeps inherited =
    let of_is : kind_of c.args.head.id ≡ kind.Mask = sym c.of.ensures ∙ c.in-Mask.is in
    let ready : IsSome c.args.self.now.layers = subst (λ (k : ChunkKind). IsReady k c.args.head.size c.args.self.now.layers) of_is c.requires in
    let some = some_of c.args.self.now.layers ready in
    let sized : decoded.layers ≡ Some some.0 = sym keeps.layers_are ∙ some.1 in (
      record {
        is_kind = of_is;
        layers = some.0;
        sized = sized;
        records = c.in_ok-reader-in-Mask.ensures.reads decoded some.0 keeps inherited sized;
      },
      keeps.background,
    )

pub returns-in_ok-reader-in-Front-clause-begins : goal.returns-in_ok-reader-in-Front-clause-begins
returns-in_ok-reader-in-Front-clause-begins c decoded keeps inherited =
    let of_is : kind_of c.args.head.id ≡ kind.Front = sym c.of.ensures ∙ c.in-Front.is in
    let ready : IsSome c.args.self.now.layers = subst (λ (k : ChunkKind). IsReady k c.args.head.size c.args.self.now.layers) of_is c.requires in
    let some = some_of c.args.self.now.layers ready in
    let sized : decoded.layers ≡ Some some.0 = sym keeps.layers_are ∙ some.1 in (
      record {
        is_kind = of_is;
        layers = some.0;
        sized = sized;
        table_is = c.begun.ensures.table ∙ c.in_ok-reader-in-Front.ensures.table;
        limit_is = c.begun.ensures.limit ∙ c.in_ok-reader-in-Front.ensures.limit;
        page_is = c.begun.ensures.page ∙ c.in_ok-reader-in-Front.ensures.page some.0 some.1;
        to_come_is = c.begun.ensures.to_come;
        lays = c.begun.ensures.lays [] c.in_ok-reader-in-Front.ensures.rests;
      },
      keeps.background,
    )

pub returns-in_ok-reader-in-Back-clause-begins : goal.returns-in_ok-reader-in-Back-clause-begins
returns-in_ok-reader-in-Back-clause-begins c decoded keeps inherited =
    let of_is : kind_of c.args.head.id ≡ kind.Back = sym c.of.ensures ∙ c.in-Back.is in
    let ready : IsSome c.args.self.now.layers = subst (λ (k : ChunkKind). IsReady k c.args.head.size c.args.self.now.layers) of_is c.requires in
    let some = some_of c.args.self.now.layers ready in
    let sized : decoded.layers ≡ Some some.0 = sym keeps.layers_are ∙ some.1 in
    let behind : IsBehind (arc_value c.args.table.now) some.0 decoded.back c.in_ok-reader-in-Back.reader =
    c.in_ok-reader-in-Back.ensures.rests decoded some.0 keeps sized in (
      record {
        is_kind = of_is;
        layers = some.0;
        sized = sized;
        table_is = c.begun-in-Back.ensures.table ∙ behind.table_is;
        limit_is = c.begun-in-Back.ensures.limit ∙ behind.limit_is;
        page_is = c.begun-in-Back.ensures.page ∙ behind.page_is;
        to_come_is = c.begun-in-Back.ensures.to_come;
        lays = c.begun-in-Back.ensures.lays decoded.back behind.rests;
      },
      tt,
    )
