use Rattle.std.proofs.Common.{◌≡◌, true, [], sym, ◌∙◌, subst, arith}
use Rattle.iw44_image.specs.Layer.{Data, data_of}
use Rattle.page_decoder.specs.declared.open_chunks.ChunkReader.{ChunkReader}
use Rattle.page_decoder.specs.declared.open_chunks.ChunkReader.TheVariants as reader
use Rattle.page_decoder.specs.Kinds.{kind_of}
use Rattle.page_decoder.specs.Kinds as kind
use Rattle.page_decoder.specs.ChunkData.{back_limit, front_limit, came_by}
use Rattle.page_decoder.specs.Kept.{Keeps}
use Rattle.page_decoder.specs.Opened.{ReadsOn, ReadsDictionary, ReadsLayer, Stays, ClosesTo}
use Rattle.page_decoder.proofs.kept.Kept.close.Goals as goal

pub returns-in-Dictionary-clause-closes : goal.returns-in-Dictionary-clause-closes
returns-in-Dictionary-clause-closes g c table head decoded bytes opens whole =
    let at : c.args.chunk.reads ≡ reader.Dictionary c.in-Dictionary.reader = sym c.into_reader.ensures.reader ∙ c.in-Dictionary.is in
    let none : c.args.chunk.to_come ≡ 0 = omega (arith, opens.count, whole) in
    let keeps : Keeps table decoded c.args.self.now = record {
      layers_are = opens.layers_are;
      own_is = opens.own_is;
      background = subst (λ (r : ChunkReader). Stays r table decoded c.args.self.now) at opens.background;
    } in
    let reads : ReadsDictionary (kind_of head.id) table decoded bytes c.in-Dictionary.reader =
    subst (λ (r : ChunkReader). ReadsOn r (kind_of head.id) table decoded bytes c.args.chunk.to_come) at opens.reads in
    let given : Data = data_of bytes true in
    subst (λ k. ClosesTo c.close_dictionary.result c.args.chunks table head decoded (came_by k table given head.offset decoded) c.close_dictionary.new.self)
    (sym reads.is_kind) (c.close_dictionary.ensures.closes table head decoded bytes c.args.chunks keeps reads)

pub returns-in-Front-clause-closes : goal.returns-in-Front-clause-closes
returns-in-Front-clause-closes g c table head decoded bytes opens whole =
    let at : c.args.chunk.reads ≡ reader.Front c.in-Front.reader = sym c.into_reader.ensures.reader ∙ c.in-Front.is in
    let none : c.args.chunk.to_come ≡ 0 = omega (arith, opens.count, whole) in
    let keeps : Keeps table decoded c.args.self.now = record {
      layers_are = opens.layers_are;
      own_is = opens.own_is;
      background = subst (λ (r : ChunkReader). Stays r table decoded c.args.self.now) at opens.background;
    } in
    let part : ReadsLayer kind.Front (kind_of head.id) front_limit [] table decoded bytes c.args.chunk.to_come c.in-Front.reader =
    subst (λ (r : ChunkReader). ReadsOn r (kind_of head.id) table decoded bytes c.args.chunk.to_come) at opens.reads in
    let reads : ReadsLayer kind.Front (kind_of head.id) front_limit [] table decoded bytes 0 c.in-Front.reader =
    subst (λ n. ReadsLayer kind.Front (kind_of head.id) front_limit [] table decoded bytes n c.in-Front.reader) none part in
    let given : Data = data_of bytes true in
    subst (λ k. ClosesTo c.close_front.result c.args.chunks table head decoded (came_by k table given head.offset decoded) c.close_front.new.self)
    (sym reads.is_kind) (c.close_front.ensures.closes table head decoded bytes keeps reads)

pub returns-in-Back-clause-closes : goal.returns-in-Back-clause-closes
returns-in-Back-clause-closes g c table head decoded bytes opens whole =
    let at : c.args.chunk.reads ≡ reader.Back c.in-Back.reader = sym c.into_reader.ensures.reader ∙ c.in-Back.is in
    let none : c.args.chunk.to_come ≡ 0 = omega (arith, opens.count, whole) in
    let part : ReadsLayer kind.Back (kind_of head.id) back_limit decoded.back table decoded bytes c.args.chunk.to_come c.in-Back.reader =
    subst (λ (r : ChunkReader). ReadsOn r (kind_of head.id) table decoded bytes c.args.chunk.to_come) at opens.reads in
    let reads : ReadsLayer kind.Back (kind_of head.id) back_limit decoded.back table decoded bytes 0 c.in-Back.reader =
    subst (λ n. ReadsLayer kind.Back (kind_of head.id) back_limit decoded.back table decoded bytes n c.in-Back.reader) none part in
    let given : Data = data_of bytes true in
    subst (λ k. ClosesTo c.close_back.result c.args.chunks table head decoded (came_by k table given head.offset decoded) c.close_back.new.self)
    (sym reads.is_kind) (c.close_back.ensures.closes table head decoded bytes opens.layers_are opens.own_is reads)
