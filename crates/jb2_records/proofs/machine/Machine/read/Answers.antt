use Rattle.std.proofs.Common.{◌≡◌, ℤ, [], ◌∷◌, ◌++◌, to_z, of_z, w32, w64, rules, sym, ap, ◌∙◌}
use Rattle.bit_plane.specs.Ink.{unsigned}
use Rattle.jb2_records.specs.declared.steps.Field.TheVariants as field
use Rattle.jb2_records.specs.Steps.{behind, rest_of}
use Rattle.jb2_records.proofs.Asking.{at_field, at_value}
use Rattle.jb2_records.proofs.Entering.{at_number, at_count}
use Rattle.jb2_records.proofs.machine.Machine.read.Goals as goal

pub returns-in-Kind-clause-moves : goal.returns-in-Kind-clause-moves
unfolding behind
returns-in-Kind-clause-moves c input stays =
    let fits : to_z w32 (of_z w32 c.args.number) ≡ c.args.number = search rules in
    c.kind.ensures.moves input (at_value input field.Kind c.args.number (to_z w32 (of_z w32 c.args.number)) c.args.self.now fits
    (at_field input c.args.field field.Kind c.args.number c.args.self.now (c.in-Kind.is) stays))

pub returns-in-StartWidth-clause-moves : goal.returns-in-StartWidth-clause-moves
unfolding behind
returns-in-StartWidth-clause-moves c input stays =
    let fits : to_z w32 (of_z w32 c.args.number) ≡ c.args.number = search rules in
    c.ask.ensures.asks input (at_value input field.StartWidth c.args.number (to_z w32 (of_z w32 c.args.number)) c.args.self.now fits
    (at_field input c.args.field field.StartWidth c.args.number c.args.self.now (c.in-StartWidth.is) stays))

pub returns-in-StartHeight-clause-moves : goal.returns-in-StartHeight-clause-moves
unfolding behind rest_of
returns-in-StartHeight-clause-moves c input stays =
    let fits : to_z w32 (of_z w32 c.args.number) ≡ c.args.number = search rules in
    let wide : to_z w32 (of_z w32 c.in-StartHeight.width) ≡ c.in-StartHeight.width = search rules in
    at_value input (field.StartHeight (to_z w32 (of_z w32 c.in-StartHeight.width))) c.args.number
    (to_z w32 (of_z w32 c.args.number)) c.args.self.now fits (at_field input c.args.field
    (field.StartHeight (to_z w32 (of_z w32 c.in-StartHeight.width))) c.args.number c.args.self.now
    (c.in-StartHeight.is ∙ ap (λ (w : ℤ). field.StartHeight w) (sym wide)) stays)

pub returns-in-OwnWidth-clause-moves : goal.returns-in-OwnWidth-clause-moves
unfolding behind
returns-in-OwnWidth-clause-moves c input stays =
    let fits : to_z w32 (of_z w32 c.args.number) ≡ c.args.number = search rules in
    c.ask-in-OwnWidth.ensures.asks input (at_value input (field.OwnWidth c.in-OwnWidth.kept) c.args.number
    (to_z w32 (of_z w32 c.args.number)) c.args.self.now fits (at_field input c.args.field
    (field.OwnWidth c.in-OwnWidth.kept) c.args.number c.args.self.now (c.in-OwnWidth.is) stays))

pub returns-in-OwnHeight-clause-moves : goal.returns-in-OwnHeight-clause-moves
unfolding behind
returns-in-OwnHeight-clause-moves c input stays =
    let fits : to_z w32 (of_z w32 c.args.number) ≡ c.args.number = search rules in
    let wide : to_z w32 (of_z w32 c.in-OwnHeight.width) ≡ c.in-OwnHeight.width = search rules in
    c.own_sizes.ensures.moves input (at_value input (field.OwnHeight c.in-OwnHeight.kept (to_z w32 (of_z w32 c.in-OwnHeight.width))) c.args.number
    (to_z w32 (of_z w32 c.args.number)) c.args.self.now fits (at_field input c.args.field
    (field.OwnHeight c.in-OwnHeight.kept (to_z w32 (of_z w32 c.in-OwnHeight.width))) c.args.number c.args.self.now
    (c.in-OwnHeight.is ∙ ap (λ (w : ℤ). field.OwnHeight c.in-OwnHeight.kept w) (sym wide)) stays))

pub returns-in-Match-clause-moves : goal.returns-in-Match-clause-moves
unfolding behind
returns-in-Match-clause-moves c input stays =
    let fits : to_z w64 (of_z w64 c.from.result) ≡ c.args.number = search rules in
    c.matched.ensures.holds input (at_number input c.in-Match.goal (unsigned c.args.number) _ c.args.self.now
    (c.unsigned.ensures.is ∙ ap unsigned fits) (at_field input c.args.field (field.Match c.in-Match.goal) c.args.number c.args.self.now
    (c.in-Match.is) stays))

pub returns-in-BesideWidth-clause-moves : goal.returns-in-BesideWidth-clause-moves
unfolding behind
returns-in-BesideWidth-clause-moves c input stays =
    let fits : to_z w32 (of_z w32 c.args.number) ≡ c.args.number = search rules in
    c.ask-in-BesideWidth.ensures.asks input (at_value input (field.BesideWidth c.in-BesideWidth.kept c.in-BesideWidth.matched) c.args.number
    (to_z w32 (of_z w32 c.args.number)) c.args.self.now fits (at_field input c.args.field
    (field.BesideWidth c.in-BesideWidth.kept c.in-BesideWidth.matched) c.args.number c.args.self.now (c.in-BesideWidth.is) stays))

pub returns-in-BesideHeight-clause-moves : goal.returns-in-BesideHeight-clause-moves
unfolding behind
returns-in-BesideHeight-clause-moves c input stays =
    let fits : to_z w32 (of_z w32 c.args.number) ≡ c.args.number = search rules in
    let wide : to_z w32 (of_z w32 c.in-BesideHeight.wider) ≡ c.in-BesideHeight.wider = search rules in
    c.beside_sizes.ensures.moves input (at_value input (field.BesideHeight c.in-BesideHeight.kept c.in-BesideHeight.matched
    (to_z w32 (of_z w32 c.in-BesideHeight.wider))) c.args.number (to_z w32 (of_z w32 c.args.number)) c.args.self.now fits
    (at_field input c.args.field (field.BesideHeight c.in-BesideHeight.kept c.in-BesideHeight.matched
    (to_z w32 (of_z w32 c.in-BesideHeight.wider))) c.args.number c.args.self.now
    (c.in-BesideHeight.is ∙ ap (λ (w : ℤ). field.BesideHeight c.in-BesideHeight.kept c.in-BesideHeight.matched w) (sym wide)) stays))

pub returns-in-Dx-clause-moves : goal.returns-in-Dx-clause-moves
unfolding behind
returns-in-Dx-clause-moves c input stays =
    let fits : to_z w32 (of_z w32 c.args.number) ≡ c.args.number = search rules in
    c.ask-in-Dx.ensures.asks input (at_value input (field.Dx c.in-Dx.mark c.in-Dx.is_new) c.args.number
    (to_z w32 (of_z w32 c.args.number)) c.args.self.now fits (at_field input c.args.field
    (field.Dx c.in-Dx.mark c.in-Dx.is_new) c.args.number c.args.self.now (c.in-Dx.is) stays))

pub returns-in-Dy-clause-moves : goal.returns-in-Dy-clause-moves
unfolding behind rest_of
returns-in-Dy-clause-moves c input stays =
    let fits : to_z w32 (of_z w32 c.args.number) ≡ c.args.number = search rules in
    let wide : to_z w32 (of_z w32 c.in-Dy.dx) ≡ c.in-Dy.dx = search rules in
    at_value input (field.Dy c.in-Dy.mark c.in-Dy.is_new (to_z w32 (of_z w32 c.in-Dy.dx))) c.args.number
    (to_z w32 (of_z w32 c.args.number)) c.args.self.now fits (at_field input c.args.field
    (field.Dy c.in-Dy.mark c.in-Dy.is_new (to_z w32 (of_z w32 c.in-Dy.dx))) c.args.number c.args.self.now
    (c.in-Dy.is ∙ ap (λ (w : ℤ). field.Dy c.in-Dy.mark c.in-Dy.is_new w) (sym wide)) stays)

pub returns-in-Left-clause-moves : goal.returns-in-Left-clause-moves
unfolding behind
returns-in-Left-clause-moves c input stays =
    let fits : to_z w32 (of_z w32 c.args.number) ≡ c.args.number = search rules in
    c.ask-in-Left.ensures.asks input (at_value input (field.Left c.in-Left.shape) c.args.number
    (to_z w32 (of_z w32 c.args.number)) c.args.self.now fits (at_field input c.args.field (field.Left c.in-Left.shape) c.args.number c.args.self.now
    (c.in-Left.is) stays))

pub returns-in-Top-clause-moves : goal.returns-in-Top-clause-moves
unfolding behind
returns-in-Top-clause-moves c input stays =
    let fits : to_z w32 (of_z w32 c.args.number) ≡ c.args.number = search rules in
    let wide : to_z w32 (of_z w32 c.in-Top.left) ≡ c.in-Top.left = search rules in
    c.plain.ensures.moves input (at_value input (field.Top c.in-Top.shape (to_z w32 (of_z w32 c.in-Top.left))) c.args.number
    (to_z w32 (of_z w32 c.args.number)) c.args.self.now fits (at_field input c.args.field
    (field.Top c.in-Top.shape (to_z w32 (of_z w32 c.in-Top.left))) c.args.number c.args.self.now
    (c.in-Top.is ∙ ap (λ (w : ℤ). field.Top c.in-Top.shape w) (sym wide)) stays))

pub returns-in-InheritedCount-clause-moves : goal.returns-in-InheritedCount-clause-moves
unfolding behind
returns-in-InheritedCount-clause-moves c input stays =
    let fits : to_z w32 (of_z w32 c.args.number) ≡ c.args.number = search rules in
    c.inherit.ensures.moves input (at_value input field.InheritedCount c.args.number (to_z w32 (of_z w32 c.args.number)) c.args.self.now fits
    (at_field input c.args.field field.InheritedCount c.args.number c.args.self.now (c.in-InheritedCount.is) stays))

pub returns-in-CommentLength-clause-moves : goal.returns-in-CommentLength-clause-moves
unfolding behind
returns-in-CommentLength-clause-moves c input stays =
    let fits : to_z w64 (of_z w64 c.from-in-CommentLength.result) ≡ c.args.number = search rules in
    c.comment.ensures.holds input (λ text. []) (at_count input (unsigned c.args.number) _ (λ text. []) c.args.self.now
    (c.unsigned-in-CommentLength.ensures.is ∙ ap unsigned fits) (at_field input c.args.field field.CommentLength c.args.number c.args.self.now
    (c.in-CommentLength.is) stays))

pub returns-in-CommentByte-clause-moves : goal.returns-in-CommentByte-clause-moves
unfolding behind
returns-in-CommentByte-clause-moves c input stays =
    c.comment-in-CommentByte.ensures.holds input (λ text. text ++ unsigned c.args.number ∷ [])
    (at_field input c.args.field (field.CommentByte c.in-CommentByte.left) c.args.number c.args.self.now (c.in-CommentByte.is) stays)
