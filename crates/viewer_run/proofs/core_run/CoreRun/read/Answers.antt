use Rattle.std.proofs.Common.{◌≡◌, ◌≢◌, ◌<◌, ◌||◌, ℕ, true, false, List, [], length, take, get_or, refl, ap, ◌∙◌, subst, arith}
use Rattle.std.specs.Prelude.{slice_get, slice_set}
use Rattle.std.proofs.lemmas.List.{get_or_read, length-set}
use Rattle.std.proofs.lemmas.Option.{slice_get_within}
use Rattle.std.proofs.lemmas.Result.{err_from_is_err_and}
use Rattle.djvu_base.specs.Library.{file_limit}
use Rattle.djvu_outside.specs.FileReads.{is_broken, IsReadTo}
use Rattle.djvu_outside.specs.Reading.{bytes_in}
use Rattle.replay_core.specs.Core.{Stands}
use Rattle.viewer_words.specs.Lines.{name_at}
use Rattle.viewer_run.specs.CoreRun.{with_file}
use Rattle.viewer_run.proofs.Feeding.{follows_file, stops_reading}
use Rattle.viewer_run.proofs.Flags.{set_at, set_other, has_listed}
use Rattle.viewer_run.proofs.core_run.CoreRun.read.Goals.{then-self, else-self}
use Rattle.viewer_run.proofs.core_run.CoreRun.read.Goals as goal

pub read_file-requires : goal.read_file-requires
read_file-requires g c told files =
    let same = c.requires.over told files in
    has_listed told c.args.file c.index-slice-file.result (subst (λ l. c.args.file < length l) same c.requires.listed)
    (c.index-slice-file.is ∙ ap (λ l. get_or l c.args.file c.index-slice-file.result) (c.slice.ensures ∙ same))

pub index_mut-requires : goal.index_mut-requires
index_mut-requires g c =
    let within = slice_get_within c.args.self.now.read.items c.args.file false c.requires.unread in omega (arith, within)

pub returns-in_err-feed-clause-comes : goal.returns-in_err-feed-clause-comes
returns-in_err-feed-clause-comes g c state counts before =
    let p = err_from_is_err_and c.from_residual-in_err-feed.result c.from_residual-in_err-feed.ensures.1 in
    let named : c.index-slice-file.result ≡ name_at c.args.self.now.names c.args.file =
    get_or_read c.args.self.now.names c.args.file c.index-slice-file.result c.requires.listed
    (c.index-slice-file.is ∙ ap (λ l. get_or l c.args.file c.index-slice-file.result) c.slice.ensures) [] in
    rw p.1 (stops_reading _ c.args.file c.args.self.now _ _ _ _ c.in_ok-read.read.bytes.items c.in_ok-read.read.end c.in_ok-read.ensures.counts
    (λ told files. subst
    (λ n. IsReadTo c.in_ok-read.read.end c.in_ok-read.read.bytes.items (take file_limit (bytes_in told n)) n 0 (g.F.Folder.failures c.args.folder.now)
    (g.F.Folder.failures c.read_file.new.folder))
    named (c.in_ok-read.ensures.told told files)))

pub returns-clause-comes : goal.returns-clause-comes
returns-clause-comes g c state counts before =
    let old = c.args.self.now in
    let file : ℕ = c.args.file in
    let bytes : List ℕ = c.in_ok-read.read.bytes.items in
    let within = slice_get_within old.read.items file false c.requires.unread in
    let broken : c.if-self.self ≡ (old.broken || is_broken c.in_ok-read.read.end) = elim c.if-self.branch [
      | then-self w ↦ cc
      | else-self w ↦ cc
    ] in
    let fed = c.in_ok-feed.ensures in
    let ended = c.end.ensures in
    let named : c.index-slice-file.result ≡ name_at old.names file =
    get_or_read old.names file c.index-slice-file.result c.requires.listed
    (c.index-slice-file.is ∙ ap (λ l. get_or l c.args.file c.index-slice-file.result) c.slice.ensures) [] in
    let flagged = set_at old.read.items file true within in
    let others : (other : ℕ) → other ≢ file → slice_get (slice_set old.read.items file true) other ≡ slice_get old.read.items other =
    λ other apart. set_other old.read.items file other true apart in
    let stands = ended.stands _ counts (fed.stands state counts before.stands) in
    record {
      bytes = bytes;
      end = c.in_ok-read.read.end;
      follows =
          follows_file state counts old _ file bytes c.in_ok-read.read.end before c.requires.unread flagged others
          (subst (λ b. Stands (with_file old.core.table state file b c.in_ok-read.read.end) counts c.end.new.self) c.as_slice.ensures.value stands)
          (ended.frame.table ∙ fed.frame.table) (ended.frame.names ∙ fed.frame.names) (ended.frame.count ∙ fed.frame.count) refl refl
          (length-set old.read.items file true);
      same = record {
        names = refl;
        pages = refl;
        frame = record {
          table = ended.frame.table ∙ fed.frame.table;
          names = ended.frame.names ∙ fed.frame.names;
          count = ended.frame.count ∙ fed.frame.count;
        };
      };
      pages = ended.pages ∙ fed.ok;
      flagged = flagged;
      others = others;
      broken = broken;
      rises = c.in_ok-read.ensures.counts;
      told_so = λ told files. subst
          (λ n. IsReadTo c.in_ok-read.read.end bytes (take file_limit (bytes_in told n)) n 0 (g.F.Folder.failures c.args.folder.now)
          (g.F.Folder.failures c.read_file.new.folder))
          named (c.in_ok-read.ensures.told told files);
    }
