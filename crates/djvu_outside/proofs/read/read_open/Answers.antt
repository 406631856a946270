use Rattle.std.proofs.Common.{◌≡◌, ◌+◌, ◌++◌, ◌∷◌, [], ℕ, Some, IfSome, IsSome, length, vec_len, take, drop, refl, ap, ◌∙◌, sym, subst, arith}
use Rattle.std.proofs.lemmas.List.{length-take}
use Rattle.djvu_outside.specs.Faults.{Reading}
use Rattle.djvu_outside.specs.Reading.{Opened, bytes_in, moved_on}
use Rattle.djvu_outside.specs.Pieces.{CameBytes, Counted}
use Rattle.djvu_outside.proofs.FileLemmas.{read_more, read_nothing, read_part, some_within, some_counts, some_of, moved_twice}
use Rattle.djvu_outside.proofs.read.read_open.Goals as goal

pub returns-in_default-clause-told : goal.returns-in_default-clause-told
returns-in_default-clause-told g c told here files opened =
    let inv = c.loop-bytes.invariant in
    let n = vec_len c.loop-bytes.bytes in
    let content = bytes_in told here.name in
    let came = subst (λ o. CameBytes told (moved_on here n) o c.loop-bytes.bytes.items c.read_some.new.bytes.items (g.F.Folder.failures c.loop-bytes.folder) (g.F.Folder.failures c.read_some.new.folder)) c.in_default.is (c.in_ok-count.ensures.told told (moved_on here n) (inv.files ∙ files) (inv.moved here opened)) in
    let bytes = came.0 ∙ inv.read told here files opened in
    let size : length c.read_some.new.bytes.items ≡ vec_len c.read_some.new.bytes = sym c.read_some.new.bytes.ok.0 in
    let counted : vec_len c.read_some.new.bytes ≡ n = subst (λ o. Counted o n (vec_len c.read_some.new.bytes)) c.in_default.is c.in_ok-count.ensures.counted in (
      read_part (drop here.position content) c.read_some.new.bytes.items n c.args.limit bytes inv.within,
      came.1 ∙ ap (λ f. f ++ Reading here.name (here.position + n) ∷ []) (inv.failures told here files opened) ∙ ap (λ m. g.F.Folder.failures c.args.folder.now ++ Reading here.name (here.position + m) ∷ []) (sym counted ∙ sym size),
    )

pub returns-then-count-eq0-clause-told : goal.returns-then-count-eq0-clause-told
returns-then-count-eq0-clause-told g c told here files opened =
    let inv = c.loop-bytes.invariant in
    let n = vec_len c.loop-bytes.bytes in
    let content = bytes_in told here.name in
    let count = c.in-Some.count in
    let came = subst (λ o. CameBytes told (moved_on here n) o c.loop-bytes.bytes.items c.read_some.new.bytes.items (g.F.Folder.failures c.loop-bytes.folder) (g.F.Folder.failures c.read_some.new.folder)) c.in-Some.is (c.in_ok-count.ensures.told told (moved_on here n) (inv.files ∙ files) (inv.moved here opened)) in
    let end = came.1.0 c.if-count-eq0.true in (
      read_nothing content c.loop-bytes.bytes.items c.read_some.new.bytes.items here.position n c.args.limit count (inv.read told here files opened) came.0 c.if-count-eq0.true end inv.within,
      came.2 ∙ inv.failures told here files opened,
    )

pub loop-bytes-preserved : goal.loop-bytes-preserved
loop-bytes-preserved g c =
    let inv = c.loop-bytes.invariant in
    let n = vec_len c.loop-bytes.bytes in
    let count = c.in-Some.count in
    let counted : vec_len c.read_some.new.bytes ≡ n + count = subst (λ o. Counted o n (vec_len c.read_some.new.bytes)) c.in-Some.is c.in_ok-count.ensures.counted in
    let within = some_within c.in_ok-count.field-0 count _ c.in-Some.is c.in_ok-count.ensures.within in
    let moves : (there : Opened) → g.F.Folder.opened c.loop-bytes.folder ≡ Some there → g.F.Folder.opened c.read_some.new.folder ≡ Some (moved_on there count) = λ there o. subst (λ k. IfSome k (λ m. g.F.Folder.opened c.read_some.new.folder ≡ Some (moved_on there m))) c.in-Some.is (c.in_ok-count.ensures.moved there o) in
    record {
      within = omega (arith, within, counted, length-take {A = ℕ});
      is_open = let was = some_of (g.F.Folder.opened c.loop-bytes.folder) inv.is_open in subst IsSome (sym (moves was.0 was.1)) refl;
      moved = λ here opened. moves (moved_on here n) (inv.moved here opened) ∙ ap Some (moved_twice here n count (vec_len c.read_some.new.bytes) counted);
      read = λ told here files opened.
          let content = bytes_in told here.name in
          let came = subst (λ o. CameBytes told (moved_on here n) o c.loop-bytes.bytes.items c.read_some.new.bytes.items (g.F.Folder.failures c.loop-bytes.folder) (g.F.Folder.failures c.read_some.new.folder)) c.in-Some.is (c.in_ok-count.ensures.told told (moved_on here n) (inv.files ∙ files) (inv.moved here opened)) in
          let now = read_more content c.loop-bytes.bytes.items c.read_some.new.bytes.items here.position n count (inv.read told here files opened) came.0 in
          now ∙ ap (λ k. take k (drop here.position content)) (sym counted);
      failures = λ told here files opened.
          let came = subst (λ o. CameBytes told (moved_on here n) o c.loop-bytes.bytes.items c.read_some.new.bytes.items (g.F.Folder.failures c.loop-bytes.folder) (g.F.Folder.failures c.read_some.new.folder)) c.in-Some.is (c.in_ok-count.ensures.told told (moved_on here n) (inv.files ∙ files) (inv.moved here opened)) in
          came.2 ∙ inv.failures told here files opened;
      files = c.in_ok-count.ensures.same_files ∙ inv.files;
      faults = some_counts c.in_ok-count.field-0 count _ _ c.in-Some.is c.in_ok-count.ensures.counts ∙ inv.faults;
    }

pub returns-clause-told : goal.returns-clause-told
returns-clause-told g c told here files opened =
    let inv = c.loop-bytes.invariant in
    let full : vec_len c.loop-bytes.bytes ≡ c.args.limit = omega (arith, inv.within, c.loop-bytes-test.false) in
    (inv.read told here files opened ∙ ap (λ k. take k (drop here.position (bytes_in told here.name))) full, inv.failures told here files opened)
