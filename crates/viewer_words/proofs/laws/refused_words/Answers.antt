use Rattle.std.proofs.Common.{◌≡◌, ◌+◌, ◌++◌, Err, Ok, suc, take, sym, subst, arith}
use Rattle.viewer_words.specs.Words.{words_of}
use Rattle.viewer_words.specs.Laws.{CanBegin}
use Rattle.viewer_words.proofs.Refusing.{refused_at}
use Rattle.viewer_words.proofs.laws.refused_words.Goals as goal

pub returns-clause-within : goal.returns-clause-within
returns-clause-within c words number e = (refused_at words number e).within

pub returns-clause-words_before : goal.returns-clause-words_before
returns-clause-words_before c words number e = (refused_at words number e).before

pub returns-clause-refused_word : goal.returns-clause-refused_word
returns-clause-refused_word c words number e more begins =
    let next : suc number ≡ number + 1 = omega arith in
    let begins : CanBegin (take (suc number) words) = subst (λ n. CanBegin (take n words)) (sym next) begins in
    let never : words_of (take (suc number) words ++ begins.0) ≡ Err number = (refused_at words number e).never more begins.0 in
    let begun : words_of (take (suc number) words ++ begins.0) ≡ Ok begins.1 = begins.2 in
    cc
