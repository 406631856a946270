-- Seats that are joined, and what is known then of the passes whose they were.
use Rattle.std.proofs.Common.{◌≡◌, ◌≤◌, ◌<◌, ℕ, zero, suc, true, cond, eqb, Option, Some, None, List, [], ◌∷◌, length, refl, sym, ap, ◌∙◌, subst, arith}
use Rattle.std.proofs.Common.{mod-lt, eq-eqb}
use Rattle.std.specs.Prelude.{slice_get, ◌%◌, All}
use Rattle.std.proofs.lemmas.List.{length-map}
use Rattle.std.proofs.lemmas.List.Elements.{All-head, All-tail}
use Rattle.djvu_base.specs.Library.{File}
use Rattle.jb2_records.specs.declared.results.FileResult.{FileResult}
use Rattle.once_board.specs.declared.holds.Hold.{Hold}
use Rattle.once_board.specs.Gathered.{Gathered}
use Rattle.once_board.specs.Numbers.{times, total}
use Rattle.once_board.specs.Rows.{IsPrefix}
use Rattle.data_pool.specs.declared.pieces.Piece.{Piece}
use Rattle.data_pool.specs.Pools.{PoolView, PoolSeatView, Feeds, KnowsOf, KnowsTo, IsSeatOf, pieces, put_pieces}
use Rattle.once_board.specs.Holds.{Extends}
use Rattle.page_decoder.specs.Libraries.{LibraryGoesOn}
use Rattle.djvu_session.specs.Arrived.{library_by}
use Rattle.djvu_session.specs.Passes.{Setup, SessionView, FeederView, PageState, DecoderView, IsFeederOf, IsDecoderOf, IsSession, read_of, page_of, spent_of}
use Rattle.djvu_session.specs.Seen.{pieces_read, seen, fed_pieces, held}
use Rattle.djvu_session.specs.Spent.{one_if}
use Rattle.djvu_session.specs.Keeps.{FeederKeeps, DecoderKeeps}
use Rattle.djvu_session.specs.Together.{one_page}
use Rattle.djvu_session.proofs.Arriving.{library_goes_on, names_are}
use Rattle.djvu_session.proofs.Feeding.{owners_pieces}

-- ---- sums over passes

total_same : (f g : DecoderView → ℕ) (passes : List DecoderView) → All (λ pass. f pass ≡ g pass) passes → total f passes ≡ total g passes
total_same f g [] same = refl
total_same f g (pass ∷ passes) same =
    let first = All-head (λ p. f p ≡ g p) pass passes same in
    let rest = total_same f g passes (All-tail (λ p. f p ≡ g p) pass passes same) in
    omega (arith, first, rest)

total_most : (f g : DecoderView → ℕ) (passes : List DecoderView) → All (λ pass. f pass ≤ g pass) passes → total f passes ≤ total g passes
total_most f g [] most = omega arith
total_most f g (pass ∷ passes) most =
    let first = All-head (λ p. f p ≤ g p) pass passes most in
    let rest = total_most f g passes (All-tail (λ p. f p ≤ g p) pass passes most) in
    omega (arith, first, rest)

-- ---- the feeder that has a right

pub record HasRight (Q : FeederView → Type 0) (feeders : List FeederView) (right : ℕ) : Type 0 where
  pub owner : ℕ
  pub pass : FeederView
  pub is : slice_get feeders owner ≡ Some pass
  pub right_so : 1 ≤ times right pass.pool.hold.rights
  pub holds : Q pass

later_one : (Q : FeederView → Type 0) (first : FeederView) (feeders : List FeederView) (right : ℕ) → HasRight Q feeders right
    → HasRight Q (first ∷ feeders) right
later_one Q first feeders right it = record { owner = suc it.owner; pass = it.pass; is = it.is; right_so = it.right_so; holds = it.holds }

some_feeder : (Q : FeederView → Type 0) (feeders : List FeederView) (right : ℕ) → All Q feeders
    → 1 ≤ total (λ (f : FeederView). times right f.pool.hold.rights) feeders → HasRight Q feeders right
some_feeder Q [] right all some = absurd (omega (arith, some))
some_feeder Q (first ∷ feeders) right all some =
    by (times right first.pool.hold.rights) refl (λ more. later_one Q first feeders right (some_feeder Q feeders right (All-tail Q first feeders all) more))
  where
    by : (n : ℕ) → times right first.pool.hold.rights ≡ n
        → (1 ≤ total (λ (f : FeederView). times right f.pool.hold.rights) feeders → HasRight Q (first ∷ feeders) right)
        → HasRight Q (first ∷ feeders) right
    by zero none rest = rest (omega (arith, some, none))
    by (suc n) one rest = record { owner = zero; pass = first; is = refl; right_so = omega (arith, one); holds = All-head Q first feeders all }

-- ---- what passes have seen

abbrev pub ReadsArePrefixes : Type 0
ReadsArePrefixes = (pool : PoolView) (feeder reader : PoolSeatView) (all : Hold Piece) (file n : ℕ) → Feeds pool feeder file → KnowsOf pool feeder all
    → IsSeatOf pool reader → Extends reader.hold all → n ≤ 2_049 → KnowsTo reader file n → IsPrefix (pieces reader file n) (put_pieces feeder file)

-- what is known of one feeder, once the pool's seats are joined
pub record Fed (session : SessionView) (pool : Hold Piece) (pass : FeederView) : Type 0 where
  pub keeps : FeederKeeps pass
  pub is : IsFeederOf session pass
  pub knows : KnowsOf session.pool pass.pool pool

piece_prefix : ReadsArePrefixes → (session : SessionView) (pool : Hold Piece) (feeders : List FeederView) (reader : DecoderView) (file : ℕ)
    → IsSession session → All (Fed session pool) feeders → All FeederKeeps feeders → All (IsFeederOf session) feeders → file < session.pool.files
    → total (λ (f : FeederView). times (file % session.pool.feeders) f.pool.hold.rights) feeders ≡ 1 → IsDecoderOf session reader → DecoderKeeps reader
    → Extends reader.pool.hold pool → IsPrefix (pieces_read reader file) (fed_pieces feeders file)
piece_prefix reads session pool feeders reader file is fed keeps are inside one of kept extends =
    let it = some_feeder (Fed session pool) feeders (file % session.pool.feeders) fed (omega (arith, one)) in
    let prefix = reads session.pool it.pass.pool reader.pool pool file (read_of reader file)
    (record { is_board = is.pool.0.laid; is_seat = it.holds.is.pool; in_rows = it.holds.keeps.rows; inside = inside; right = it.right_so })
    it.holds.knows of.pool extends (kept.few file) (kept.known file) in
    subst (λ l. IsPrefix (pieces_read reader file) l) (sym (owners_pieces session feeders it.owner file it.pass keeps are inside one it.is it.right_so)) prefix

pub seen_goes_on : ReadsArePrefixes → (session : SessionView) (pool : Hold Piece) (feeders : List FeederView) (reader : DecoderView)
    → IsSession session → All (Fed session pool) feeders → All FeederKeeps feeders → All (IsFeederOf session) feeders
    → ((right : ℕ) → right < session.pool.feeders → total (λ (f : FeederView). times right f.pool.hold.rights) feeders ≡ 1)
    → IsDecoderOf session reader → DecoderKeeps reader → Extends reader.pool.hold pool → LibraryGoesOn (seen reader) (held session.setup.names feeders)
seen_goes_on reads session pool feeders reader is fed keeps are one of kept extends =
    subst (λ (s : Setup). LibraryGoesOn (library_by s.names (pieces_read reader)) (held session.setup.names feeders)) (sym of.setup)
    (library_goes_on session.setup.names 0 (pieces_read reader) (fed_pieces feeders)
    (λ file inside.
    let files = is.pool.1 in
    piece_prefix reads session pool feeders reader file is fed keeps are (omega (arith, inside, files))
    (one (file % session.pool.feeders) (mod-lt file is.pool.0.laid.shared)) of kept extends))

pub long_held : (names : List (List ℕ)) (feeders : List FeederView) → length (held names feeders) ≡ length names
long_held names feeders =
    sym (length-map (held names feeders) (λ (file : File). file.name)) ∙ ap length (names_are names 0 (fed_pieces feeders))

-- ---- claims

pub claims_are : (session : SessionView) (shelf : Hold FileResult) (decoders : List DecoderView) (file : ℕ) → IsSession session → All DecoderKeeps decoders
    → Gathered (λ (d : DecoderView). d.shelf.hold) session.shelf.owners session.kept.shelf.hold decoders shelf
    → times file shelf.claims ≡ total (λ pass. one_if (spent_of pass file)) decoders
claims_are session shelf decoders file is keeps all =
    let sum = all.claims file in
    let none = is.no_claim file in
    let same = total_same (λ pass. times file pass.shelf.hold.claims) (λ pass. one_if (spent_of pass file)) decoders
    (λ k d inside. (keeps k d inside).claims file) in
    omega (arith, sum, none, same)

-- ---- own pages

one_owner : (session : SessionView) (pass : DecoderView) (page : ℕ) → IsDecoderOf session pass → DecoderKeeps pass
    → one_page (page_of pass page) ≤ times (page % session.log.workers) pass.log.hold.rights
one_owner session pass page of kept = by (page_of pass page) refl
  where
    by : (own : Option PageState) → page_of pass page ≡ own → one_page own ≤ times (page % session.log.workers) pass.log.hold.rights
    by None e = omega arith
    by (Some state) e =
        let mine = subst (λ n. page % n ≡ pass.number) of.log.same_rights (kept.pages page state e).own in
        let right = of.right (page % session.log.workers) in
        let yes : eqb (page % session.log.workers) pass.number ≡ true = subst (λ n. eqb (page % session.log.workers) n ≡ true) mine
        (eq-eqb (page % session.log.workers) (page % session.log.workers) refl) in
        let has = right ∙ ap (λ b. cond b 1 0) yes in
        omega (arith, has)

pub one_page_each : (session : SessionView) (decoders : List DecoderView) (page : ℕ) → IsSession session → All (IsDecoderOf session) decoders
    → All DecoderKeeps decoders
    → ((right : ℕ) → right < session.log.workers → total (λ (d : DecoderView). times right d.log.hold.rights) decoders ≡ 1)
    → total (λ pass. one_page (page_of pass page)) decoders ≤ 1
one_page_each session decoders page is are keeps one =
    let most = total_most (λ pass. one_page (page_of pass page)) (λ (d : DecoderView). times (page % session.log.workers) d.log.hold.rights) decoders
    (λ k d inside. one_owner session _ page (are k d inside) (keeps k d inside)) in
    let sum = one (page % session.log.workers) (mod-lt page is.log.0.laid.shared) in
    omega (arith, most, sum)
