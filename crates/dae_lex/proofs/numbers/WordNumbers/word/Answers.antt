use Rattle.std.proofs.Common.{ap, sym, subst, ◌∙◌}
use Rattle.std.specs.List.{position_or_len}
use Rattle.std.specs.Str.{bytes_eq}
use Rattle.dae_base.proofs.Laws.{now_of}
use Rattle.dae_lex.proofs.Entries.{place_mapped, insert_mapped}
use Rattle.dae_lex.proofs.Positions.{IsAt, at_word, kept_word}
use Rattle.dae_lex.proofs.numbers.WordNumbers.word.Goals as goal

pub returns-in-Ok-clause-number : goal.returns-in-Ok-clause-number
returns-in-Ok-clause-number c =
    let ks = c.args.self.now.words.keys in
    let name = c.args.spelling.now in
    let new = ap now_of c.in-Ok.ensures.keys ∙ insert_mapped c.args.spelling ks in
    let place = c.in-Ok.ensures.index ∙ place_mapped name ks in
    subst (λ n. IsAt (now_of c.insert_full.new.self.keys) n name) (sym place)
    (subst (λ ws. IsAt ws (position_or_len (bytes_eq name) (now_of ks)) name) (sym new) (at_word (now_of ks) name))

pub returns-in-Ok-clause-keeps : goal.returns-in-Ok-clause-keeps
returns-in-Ok-clause-keeps c =
    let ks = c.args.self.now.words.keys in
    let name = c.args.spelling.now in
    let new = ap now_of c.in-Ok.ensures.keys ∙ insert_mapped c.args.spelling ks in
    record {
      words = λ n s h. subst (λ ws. IsAt ws n s) (sym new) (kept_word (now_of ks) name n s h);
      literals = λ n bs h. h;
    }
