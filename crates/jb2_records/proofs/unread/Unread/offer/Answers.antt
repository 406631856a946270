use Rattle.std.proofs.Common.{◌≡◌, ◌++◌, ℕ, List, sym, ap, subst, ◌∙◌}
use Rattle.std.specs.Prelude.{drop, take}
use Rattle.std.proofs.lemmas.List.{take-append-drop, drop-drop}
use Rattle.zp_decoder.specs.Decoder.{Fed}
use Rattle.jb2_records.proofs.Offering.{offered_room}
use Rattle.jb2_records.proofs.unread.Unread.offer.Goals as goal

pub returns-clause-takes : goal.returns-clause-takes
returns-clause-takes c =
    let bytes : List ℕ = c.self.inside.bytes.items in
    let left : List ℕ = drop c.self.inside.taken bytes in
    let offered : c.behind-left.result.now ≡ left = c.behind-left.ensures ∙ ap (drop c.self.inside.taken) c.as_slice.ensures.value in
    record {
      more = take c.push-count.result left;
      left = ap (λ (l : List ℕ). take c.push-count.result left ++ l) (sym (drop-drop c.push-count.result c.self.inside.taken bytes))
          ∙ take-append-drop c.push-count.result left
          ∙ ap (λ u. u.left) c.self.view_is;
      fed = λ payload place fed. c.finish.ensures.fed (payload ++ take c.push-count.result left) place
          (subst (λ (l : List ℕ). Fed (payload ++ take c.push-count.result l) place c.push-count.new.self) offered
          (c.push-count.ensures.fed payload place fed));
      standing = c.was_fed-2.ensures.standing;
      table = c.finish.ensures.table ∙ c.push-count.ensures.table;
      ended = ap (λ u. u.ended) c.self.view_is;
    }

pub returns-clause-room : goal.returns-clause-room
returns-clause-room c =
    let some = c.was_fed.ensures.some in
    offered_room c.args.self.now _ c.args.zp.now c.finish.new.zp some.0 some.1 some.2 (c.was_fed.ensures.standing some.0 some.1 some.2)
    (returns-clause-takes c)
