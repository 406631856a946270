use Rattle.std.proofs.Common.{◌≡◌, ◌<◌, Some, length, refl, sym, ap, ◌∙◌, subst, arith}
use Rattle.std.specs.Prelude.{slice_get, slice_index_or}
use Rattle.std.specs.Arc.{arc_value}
use Rattle.std.proofs.lemmas.List.{length-append}
use Rattle.std.proofs.lemmas.Option.{slice_get-get_or, slice_get_read}
use Rattle.replay_core.specs.CorePages.{IsBegun}
use Rattle.replay_core.proofs.Beginning.{next_begun}
use Rattle.replay_core.proofs.core_calls.begin_pages.Goals as goal

pub pages-preserved : goal.pages-preserved
pages-preserved c =
    let table = arc_value c.args.table.now in
    let names = arc_value c.args.names.now in
    let numbers = c.args.pages.now in
    let number = slice_index_or numbers c.pages.place 0 in
    let place : c.pages.place ≡ length c.pages.begun.items = c.pages.invariant.place in
    let there : slice_get numbers c.pages.place ≡ Some number = slice_get-get_or numbers c.pages.place 0 c.pages-test.true in
    let less : number < length c.args.files.now.items = c.requires.below c.pages.place 0 c.pages-test.true in
    let many = c.pages.invariant.are.file_count in
    let within : number < length c.pages.files.items = omega (arith, less, many) in
    let old = c.index_mut.result.now in
    let is_old = slice_get_read c.pages.files.items (length c.pages.files.items) number old refl within c.index_mut.ensures.value in
    let begun : IsBegun table names number c.new-page.result =
    subst (λ t. IsBegun t names number c.new-page.result) c.in_ok-clone.ensures.cases
    (subst (λ n. IsBegun (arc_value c.in_ok-clone.field-0) n number c.new-page.result) c.in_ok-clone-2.ensures.cases c.new-page.ensures.begun) in
    let pushed = c.in_ok-push.ensures.items in
    let more = ap length pushed ∙ length-append c.pages.begun.items _ in
    let test = c.pages-test.true in
    record {
      place = omega (arith, place, more);
      within = omega (arith, test);
      are = next_begun table names (length c.args.files.now.items) numbers c.pages.begun.items c.pages.files.items c.requires.apart
          c.pages.invariant.are number (ap (slice_get numbers) (sym place) ∙ there) old c.set_page.new.self is_old
          (c.set_page.ensures ∙ ap (λ n. record old { page = Some n }) place) c.new-page.result begun _ pushed;
    }
