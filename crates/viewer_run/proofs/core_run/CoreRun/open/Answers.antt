use Rattle.std.proofs.Common.{◌≡◌, ◌<◌, true, false, Some, length, get_or, refl, sym, ap, ◌∙◌, subst}
use Rattle.std.specs.Prelude.{slice_get}
use Rattle.std.proofs.lemmas.Option.{slice_get_read, get_or_from_slice_get}
use Rattle.viewer_run.proofs.Opening.{opens_read, opens_so, file_of, flag_there, can_step}
use Rattle.viewer_run.proofs.core_run.CoreRun.open.Goals as goal

pub read-requires-clause-listed : goal.read-requires-clause-listed
read-requires-clause-listed g c =
    let can = c.requires.can in
    let found = file_of c.args.page c.args.self.now can in
    subst (λ l. get_or l c.args.page 0 < length c.args.self.now.names) (sym c.slice.ensures) (can.follows.below c.args.page _ found)

pub returns-then-index-clause-opens : goal.returns-then-index-clause-opens
returns-then-index-clause-opens g c state counts file count follows found =
    let at : get_or c.slice.result.now c.args.page 0 ≡ file =
    ap (λ l. get_or l c.args.page 0) c.slice.ensures ∙ get_or_from_slice_get c.args.self.now.pages c.args.page file 0 found in
    let flag : slice_get c.args.self.now.read.items (get_or c.slice.result.now c.args.page 0) ≡ Some true =
    slice_get_read c.args.self.now.read.items _ (get_or c.slice.result.now c.args.page 0) c.index.result.now refl
    (flag_there c.args.page c.args.self.now c.slice.result.now c.requires.can c.slice.ensures) c.index.ensures ∙ ap Some c.if-index.true in
    opens_read _ c.args.page file state counts c.args.self.now _ count c.libraries_go_on.ensures.same follows
    (ap (slice_get c.args.self.now.read.items) (sym at) ∙ flag)

pub returns-then-index-clause-can : goal.returns-then-index-clause-can
returns-then-index-clause-can g c =
    let flag : slice_get c.args.self.now.read.items (get_or c.slice.result.now c.args.page 0) ≡ Some true =
    slice_get_read c.args.self.now.read.items _ (get_or c.slice.result.now c.args.page 0) c.index.result.now refl
    (flag_there c.args.page c.args.self.now c.slice.result.now c.requires.can c.slice.ensures) c.index.ensures ∙ ap Some c.if-index.true in
    record {
      can = c.requires.can;
      file = get_or c.slice.result.now c.args.page 0;
      is_file =
          file_of c.args.page c.args.self.now c.requires.can ∙ ap (λ l. Some (get_or l c.args.page 0)) (sym c.slice.ensures);
      read = flag;
    }

pub read-requires-clause-unread : goal.read-requires-clause-unread
read-requires-clause-unread g c =
    slice_get_read c.args.self.now.read.items _ (get_or c.slice.result.now c.args.page 0) c.index.result.now refl
    (flag_there c.args.page c.args.self.now c.slice.result.now c.requires.can c.slice.ensures) c.index.ensures ∙ ap Some c.if-index.false

pub returns-clause-opens : goal.returns-clause-opens
returns-clause-opens g c state counts file count follows found =
    let at : get_or c.slice.result.now c.args.page 0 ≡ file =
    ap (λ l. get_or l c.args.page 0) c.slice.ensures ∙ get_or_from_slice_get c.args.self.now.pages c.args.page file 0 found in
    let flag : slice_get c.args.self.now.read.items (get_or c.slice.result.now c.args.page 0) ≡ Some false =
    slice_get_read c.args.self.now.read.items _ (get_or c.slice.result.now c.args.page 0) c.index.result.now refl
    (flag_there c.args.page c.args.self.now c.slice.result.now c.requires.can c.slice.ensures) c.index.ensures ∙ ap Some c.if-index.false in
    opens_so c.states_go_on.ensures.library c.libraries_go_on.ensures.both c.libraries_go_on.ensures.same c.read.result _ c.args.page
    (get_or c.slice.result.now c.args.page 0) file state counts c.args.self.now c.read.new.self _ _ _ _ count at follows flag
    (subst (λ n. n < length c.args.self.now.names) (sym at) (follows.below c.args.page file found)) c.requires.over
    (c.read.ensures.comes state counts follows)

pub returns-clause-can : goal.returns-clause-can
returns-clause-can g c =
    let can = c.requires.can in
    let found : slice_get c.args.self.now.pages c.args.page ≡ Some (get_or c.slice.result.now c.args.page 0) =
    file_of c.args.page c.args.self.now can ∙ ap (λ l. Some (get_or l c.args.page 0)) (sym c.slice.ensures) in
    can_step c.read.result _ c.args.page _ c.args.self.now c.read.new.self _ _ _ _ can found (c.read.ensures.comes can.state can.counts can.follows)
