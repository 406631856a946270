-- What a pass puts is no larger in size than a limit.
use Rattle.std.proofs.Common.{◌≡◌, ℕ, ◌*◌, ◌%◌, ◌<◌, ◌≤◌, ◌&&◌, eqb, Bool, true, false, cond, ℤ, unsigned_abs, ap, ◌∙◌, sym, subst, refl, arith}
use Rattle.std.proofs.lemmas.Bool.{ne_eqb}
use Rattle.iw44_blocks.specs.Lattice.{Lattice, IsWithin, value_at}
use Rattle.iw44_lifting.specs.declared.passes.Pass.{Pass}
use Rattle.iw44_lifting.specs.Passes.{Fits, FitsRow, InRow, is_lifted, new_value, passed, column_pass, row_pass}
use Rattle.iw44_lifting.proofs.Grids.{value_given}
use Rattle.iw44_lifting.proofs.PassFacts.{Facts, on_turns, new_value_same}
use Rattle.iw44_lifting.proofs.PassSteps.{UpTo}

abbrev Small : ℕ → ℤ → Type 0
Small limit v = unsigned_abs v ≤ limit

pub pass_value : (pass : Pass) (grid : Lattice) (x y : ℕ) → x < grid.width → y < grid.height →
    value_at (passed pass grid) x y ≡ cond (is_lifted pass x y) (new_value pass grid x y) (value_at grid x y)
pass_value pass grid x y h k = value_given grid.width grid.height x y (λ x y. cond (is_lifted pass x y) (new_value pass grid x y) (value_at grid x y)) h k

-- in the row and the grid that the pass works on
pub in_row_fits : (limit : ℕ) (pass : Pass) (row column : ℕ) (old now : Lattice) → Facts pass → InRow pass row column old now → is_lifted pass column row ≡ true →
    column < old.width → row < old.height → FitsRow limit pass row old → unsigned_abs (new_value pass now column row) ≤ limit
in_row_fits limit pass row column old now facts in_row here h k fits =
    subst (Small limit) (sym (new_value_same pass old now column row facts in_row.keeps here h k (in_row.later column h (omega arith)))) (fits column h here)

pub up_to_fits : (limit : ℕ) (pass : Pass) (row : ℕ) (old now : Lattice) → Facts pass → UpTo pass row old now → row < old.height → Fits limit pass old →
    FitsRow limit pass row now
up_to_fits limit pass row old now facts up_to k fits x h here =
    let wide : x < old.width = subst (λ (n : ℕ). x < n) up_to.keeps.width h in
    subst (Small limit) (sym (new_value_same pass old now x row facts up_to.keeps here wide k (up_to.later x row wide k (omega arith)))) (fits x row wide k here)

-- what a pass puts stays in the grid, also after another that goes to other places
pub passed_fits : (limit : ℕ) (pass : Pass) (grid : Lattice) → IsWithin limit (passed pass grid) → Fits limit pass grid
passed_fits limit pass grid within x y h k here =
    subst (Small limit) (pass_value pass grid x y h k ∙ ap (λ b. cond b (new_value pass grid x y) (value_at grid x y)) here) (within x y h k)

pub first_fits : (limit : ℕ) (p q : Pass) (grid : Lattice) → ((x y : ℕ) → is_lifted p x y ≡ true → is_lifted q x y ≡ false) → IsWithin limit (passed q (passed p grid)) →
    Fits limit p grid
first_fits limit p q grid apart within x y h k here =
    let half : Lattice = passed p grid in
    let kept : value_at (passed q half) x y ≡ value_at half x y =
    pass_value q half x y h k ∙ ap (λ b. cond b (new_value q half x y) (value_at half x y)) (apart x y here) in
    let put : value_at half x y ≡ new_value p grid x y = pass_value p grid x y h k ∙ ap (λ b. cond b (new_value p grid x y) (value_at grid x y)) here in
    subst (Small limit) (kept ∙ put) (within x y h k)

and_false : (a b : Bool) → b ≡ false → (a && b) ≡ false
and_false true b h = h
and_false false b h = refl

pub columns_apart : (s : ℕ) → 1 ≤ s → (x y : ℕ) → is_lifted (column_pass s false) x y ≡ true → is_lifted (column_pass s true) x y ≡ false
columns_apart s some x y here =
    let turn : y % (2 * s) ≡ 0 = (on_turns (column_pass s false) x y here).1 in
    and_false (eqb (x % s) 0) (eqb (y % (2 * s)) s) (ne_eqb (y % (2 * s)) s (λ e. omega arith))

pub rows_apart : (s : ℕ) → 1 ≤ s → (x y : ℕ) → is_lifted (row_pass s false) x y ≡ true → is_lifted (row_pass s true) x y ≡ false
rows_apart s some x y here =
    let turn : x % (2 * s) ≡ 0 = (on_turns (row_pass s false) x y here).0 in
    ap (λ t. t && eqb (y % s) 0) (ne_eqb (x % (2 * s)) s (λ e. omega arith))
