use Rattle.std.proofs.Common.{◌≡◌, ℕ, pos, ◌+ℤ◌, ◌-ℤ◌, ◌*ℤ◌, ap, ◌∙◌, rules, to_z, of_z, w8, w32}
use Rattle.std.specs.Int.{int_shr}
use Rattle.iw44_image.specs.declared.colours.Colour.{Colour}
use Rattle.iw44_image.specs.Samples.{byte_of, red_part, base_part}
use Rattle.iw44_image.proofs.colours.Colour.of.Goals as goal

same : (a b c x y z : ℕ) → a ≡ x → b ≡ y → c ≡ z → ◌≡◌ {A = Colour} (record { red = a; green = b; blue = c }) (record { red = x; green = y; blue = z })
same a b c x y z d e f =
    ap (λ (n : ℕ). let it : Colour = record { red = n; green = b; blue = c } in it) d
    ∙ ap (λ (n : ℕ). let it : Colour = record { red = x; green = n; blue = c } in it) e
    ∙ ap (λ (n : ℕ). let it : Colour = record { red = x; green = y; blue = n } in it) f

pub returns : goal.returns
returns c =
    let y : to_z w8 (of_z w8 c.args.y) ≡ c.args.y = search rules in
    let b : to_z w8 (of_z w8 c.args.b) ≡ c.args.b = search rules in
    let r : to_z w8 (of_z w8 c.args.r) ≡ c.args.r = search rules in
    let red : to_z w32 (of_z w32 c.red_part-red.result) ≡ c.red_part-red.result = search rules in
    let base : to_z w32 (of_z w32 c.base_part-base.result) ≡ c.base_part-base.result = search rules in
    let high : to_z w32 (of_z w32 c.level.result) ≡ c.level.result = search rules in
    let low : to_z w32 (of_z w32 c.halved.result) ≡ c.halved.result = search rules in
    let twice : to_z w32 (of_z w32 c.doubled.result) ≡ c.doubled.result = search rules in
    let first : to_z w32 (of_z w32 c.sum.result) ≡ c.sum.result = search rules in
    let second : to_z w32 (of_z w32 c.difference.result) ≡ c.difference.result = search rules in
    let third : to_z w32 (of_z w32 c.sum-2.result) ≡ c.sum-2.result = search rules in
    let one : c.byte_of.result ≡ byte_of (c.args.y +ℤ pos 128 +ℤ red_part c.args.r) = cc in
    let two : c.byte_of-2.result ≡ byte_of (base_part c.args.y c.args.b -ℤ int_shr (red_part c.args.r) 1) = cc in
    let three : c.byte_of-3.result ≡ byte_of (base_part c.args.y c.args.b +ℤ pos 2 *ℤ c.args.b) = cc in
    same c.byte_of.result c.byte_of-2.result c.byte_of-3.result _ _ _ one two three
