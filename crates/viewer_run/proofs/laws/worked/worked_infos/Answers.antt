use lib.Utf8.{encode}
use Rattle.std.proofs.Common.{refl}
use Rattle.std.specs.Fmt.{digits}
use Rattle.std.specs.Str.{chars, is_utf8}
use Rattle.djvu_base.specs.Library.{file_limit}
use Rattle.viewer_words.specs.Words.{page_limit}
use Rattle.viewer_run.proofs.laws.worked.worked_infos.Goals as goal

pub returns-clause-head : goal.returns-clause-head
unfolding digits is_utf8 chars encode file_limit page_limit
returns-clause-head c = refl

pub returns-clause-page : goal.returns-clause-page
unfolding digits is_utf8 chars encode file_limit page_limit
returns-clause-page c = refl

pub returns-clause-overrun : goal.returns-clause-overrun
unfolding digits is_utf8 chars encode file_limit page_limit
returns-clause-overrun c = refl

pub returns-clause-broken_off : goal.returns-clause-broken_off
unfolding digits is_utf8 chars encode file_limit page_limit
returns-clause-broken_off c = refl
