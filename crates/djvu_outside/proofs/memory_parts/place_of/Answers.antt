use Rattle.std.proofs.Common.{◌≡◌, rules, arith, sym, ◌∙◌}
use Rattle.djvu_outside.specs.Folders.{name_at}
use Rattle.djvu_outside.proofs.FolderLemmas.{contents_of-found, contents_of-next}
use Rattle.djvu_outside.proofs.memory_parts.place_of.Goals as goal

pub returns-then-has_name-clause-place : goal.returns-then-has_name-clause-place
returns-then-has_name-clause-place c =
    let same : name_at c.loop-file.file c.args.files.now ≡ c.args.name.now = search rules in
    record {
      within = c.loop-file-test.true;
      contents = rw same (contents_of-found c.args.name.now c.args.files.now c.loop-file.file c.loop-file-test.true c.loop-file.invariant (sym c.has_name.ensures ∙ c.if-has_name.true));
      position = omega arith;
    }

pub loop-file-preserved : goal.loop-file-preserved
loop-file-preserved c =
    contents_of-next c.args.name.now c.args.files.now c.loop-file.file c.loop-file-test.true c.loop-file.invariant (sym c.has_name.ensures ∙ c.if-has_name.false)
