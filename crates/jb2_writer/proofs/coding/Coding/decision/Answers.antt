use Rattle.std.proofs.Common.{◌≡◌, ◌<◌, ℕ, [], ◌∷◌, ◌++◌, cond, length, refl, sym, ap, subst}
use Rattle.std.specs.Prelude.{Some}
use Rattle.std.specs.HashMap.{get}
use Rattle.zp_decoder.specs.Decision.{Adaptive}
use Rattle.jb2_numbers.specs.Contexts.{Name, name, store}
use Rattle.zp_encoder.specs.Written.{written}
use Rattle.zp_encoder.specs.Encoder.{Wrote}
use Rattle.jb2_writer.specs.Coded.{Number}
use Rattle.jb2_writer.specs.Coding.{contexts_of, numbers_of, is_same_key}
use Rattle.jb2_writer.proofs.Adding.{adds_bit, number_sound}
use Rattle.jb2_writer.proofs.Keying.{number_stored, key_is, value_is}
use Rattle.jb2_writer.proofs.coding.Coding.decision.Goals as goal

pub encode-requires : goal.encode-requires
encode-requires c =
    let key = key_is c.key_of-key.result c.args.root c.args.path c.requires.path.0 c.key_of-key.ensures c.requires.path.1 in
    let value = value_is c.args.self.now.numbers c.key_of-key.result (name c.args.root c.requires.path.0) c.unwrap_or-state.result _ _ c.unwrap_or-state.ensures
    c.copied.ensures c.get.ensures.value key in
    subst (λ (state : ℕ). state < length c.args.self.now.encoder.table) (sym value)
    (c.requires.sound.numbers (name c.args.root c.requires.path.0))

pub returns : goal.returns
returns c decisions p =
    let at : Name = name c.args.root decisions in
    let key = key_is c.key_of-key.result c.args.root c.args.path decisions c.key_of-key.ensures p in
    let value = value_is c.args.self.now.numbers c.key_of-key.result at c.unwrap_or-state.result _ _ c.unwrap_or-state.ensures c.copied.ensures
    c.get.ensures.value key in
    let stored : numbers_of c.insert.new.self ≡ store (numbers_of c.args.self.now.numbers) at c.encode.new.ctx =
    number_stored c.args.self.now.numbers c.insert.new.self at c.encode.new.ctx
    (subst (λ (key : ℕ × ℕ). (q : ℕ × ℕ) → get is_same_key c.insert.new.self q ≡
    cond (is_same_key key q) (Some c.encode.new.ctx) (get is_same_key c.args.self.now.numbers q)) key c.in_ok-insert.ensures.updates.0) in
    adds_bit c.args.self.now _ (Number at) c.args.bit c.encode.new.ctx
    (λ written_before before. subst (λ (state : ℕ). Wrote (written_before ++ written (Adaptive state) c.args.bit c.encode.new.ctx ∷ []) c.encode.new.self) value
    (c.in_ok-encode.ensures.wrote written_before before))
    (ap (λ (numbers : Name → ℕ). record (contexts_of c.args.self.now) { numbers = numbers }) stored)
    (number_sound c.args.self.now _ at c.encode.new.ctx c.requires.sound c.encode.ensures.table c.encode.ensures.below stored refl refl refl)
    c.encode.ensures.table
