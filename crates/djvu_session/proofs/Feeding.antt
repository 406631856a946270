-- What feeders hold of a file: the pieces of the one that has its right.
use Rattle.std.proofs.Common.{◌≡◌, ◌≤◌, ◌<◌, ℕ, zero, suc, Some, None, List, [], ◌∷◌, ◌++◌, refl, sym, ap, ◌∙◌, subst, arith}
use Rattle.std.proofs.Common.{append-nil}
use Rattle.std.specs.Prelude.{slice_get, ◌%◌, All}
use Rattle.std.proofs.lemmas.List.Elements.{All-head, All-tail}
use Rattle.once_board.specs.declared.counts.RowCount.{RowCount}
use Rattle.once_board.specs.Filled.{used}
use Rattle.once_board.specs.Numbers.{times, total}
use Rattle.once_board.specs.RowSeats.{values}
use Rattle.data_pool.specs.Pools.{row_seat, put_pieces}
use Rattle.djvu_session.specs.Passes.{SessionView, FeederView, IsFeederOf}
use Rattle.djvu_session.specs.Keeps.{FeederKeeps}
use Rattle.djvu_session.specs.Seen.{fed_pieces}

-- a feeder put nothing of a file whose right it hasn't
puts_nothing : (session : SessionView) (pass : FeederView) (file : ℕ) → FeederKeeps pass → IsFeederOf session pass → file < session.pool.files
    → times (file % session.pool.feeders) pass.pool.hold.rights ≡ 0 → put_pieces pass.pool file ≡ []
puts_nothing session pass file keeps is inside none =
    let rows = is.pool.same_rows in
    let right = subst (λ n. times (file % n) pass.pool.hold.rights ≡ 0) (sym is.pool.same_rights) none in
    let empty = keeps.rows.alone file (omega (arith, rows, inside)) right in
    ap (λ (count : RowCount). values 2_049 (row_seat pass.pool) file (used count)) empty

nobody_puts : (session : SessionView) (feeders : List FeederView) (file : ℕ) → All FeederKeeps feeders → All (IsFeederOf session) feeders
    → file < session.pool.files → total (λ (f : FeederView). times (file % session.pool.feeders) f.pool.hold.rights) feeders ≡ 0 → fed_pieces feeders file ≡ []
nobody_puts session [] file keeps are inside none = refl
nobody_puts session (pass ∷ feeders) file keeps are inside none =
    let first = puts_nothing session pass file (All-head FeederKeeps pass feeders keeps) (All-head (IsFeederOf session) pass feeders are) inside
    (omega (arith, none)) in
    let rest = nobody_puts session feeders file (All-tail FeederKeeps pass feeders keeps) (All-tail (IsFeederOf session) pass feeders are) inside
    (omega (arith, none)) in
    ap (λ l. l ++ fed_pieces feeders file) first ∙ rest

owner_among : (feeders : List FeederView) (owner right : ℕ) (pass : FeederView) → slice_get feeders owner ≡ Some pass
    → 1 ≤ times right pass.pool.hold.rights → 1 ≤ total (λ (f : FeederView). times right f.pool.hold.rights) feeders
owner_among [] owner right pass e own = absurd (let wrong : None ≡ Some pass = e in cc)
owner_among (first ∷ feeders) zero right pass e own =
    let same : pass ≡ first = cc in
    let has = subst (λ (f : FeederView). 1 ≤ times right f.pool.hold.rights) same own in
    omega (arith, has)
owner_among (first ∷ feeders) (suc owner) right pass e own = let rest = owner_among feeders owner right pass e own in omega (arith, rest)

pub owners_pieces : (session : SessionView) (feeders : List FeederView) (owner file : ℕ) (pass : FeederView) → All FeederKeeps feeders
    → All (IsFeederOf session) feeders → file < session.pool.files
    → total (λ (f : FeederView). times (file % session.pool.feeders) f.pool.hold.rights) feeders ≡ 1 → slice_get feeders owner ≡ Some pass
    → 1 ≤ times (file % session.pool.feeders) pass.pool.hold.rights → fed_pieces feeders file ≡ put_pieces pass.pool file
owners_pieces session [] owner file pass keeps are inside one e own = absurd (omega (arith, one))
owners_pieces session (first ∷ feeders) zero file pass keeps are inside one e own =
    let same : first ≡ pass = cc in
    let has = subst (λ (f : FeederView). 1 ≤ times (file % session.pool.feeders) f.pool.hold.rights) (sym same) own in
    let rest = nobody_puts session feeders file (All-tail FeederKeeps first feeders keeps) (All-tail (IsFeederOf session) first feeders are) inside
    (omega (arith, one, has)) in
    ap (λ l. put_pieces first.pool file ++ l) rest ∙ append-nil (put_pieces first.pool file) ∙ ap (λ (f : FeederView). put_pieces f.pool file) same
owners_pieces session (first ∷ feeders) (suc owner) file pass keeps are inside one e own =
    let others = All-tail (IsFeederOf session) first feeders are in
    let some = owner_among feeders owner (file % session.pool.feeders) pass e own in
    let none = puts_nothing session first file (All-head FeederKeeps first feeders keeps) (All-head (IsFeederOf session) first feeders are) inside
    (omega (arith, one, some)) in
    ap (λ l. l ++ fed_pieces feeders file) none
    ∙ owners_pieces session feeders owner file pass (All-tail FeederKeeps first feeders keeps) others inside (omega (arith, one, some)) e own
