use Rattle.std.proofs.Common.{◌≡◌, [], map, refl, ap, ◌∙◌}
use Rattle.dae_base.proofs.Laws.{now_of}
use Rattle.dae_tree.specs.Tokens.{joined_literals, numbered, names_after, literals_after}
use Rattle.dae_lex.specs.Settling.{read_of}
use Rattle.dae_lex.specs.Finishing.{Built}
use Rattle.dae_lex.proofs.Entries.{values_named}
use Rattle.dae_lex.proofs.Numbering.{is_reading}
use Rattle.dae_lex.proofs.reading.finish_text.Goals as goal

pub new-requires : goal.new-requires
new-requires c =
    let rs = map read_of c.args.reads.now in
    let whole = is_reading c.args.text.now rs c.args.seen.stdio c.args.seen.stdlib c.args.end c.requires.spans in
    let ts = ap (λ (b : Built). b.tokens) c.in_ok-tokens.ensures.ok in
    let ns = ap (λ (b : Built). b.names) c.in_ok-tokens.ensures.ok in
    let ls = ap (λ (b : Built). b.literals) c.in_ok-tokens.ensures.ok in
    let values = ap now_of (c.as_slice.ensures ∙ c.values.ensures.rest) ∙ values_named _ in
    let owned = c.in_ok-owned.ensures.ok in
    let t : c.from_vec.result ≡ numbered [] [] (joined_literals rs) = cc in
    let n : c.in_ok-owned.owned ≡ names_after [] (joined_literals rs) = cc in
    let l : c.from_vec-2.result ≡ literals_after [] (joined_literals rs) = cc in
    rw (t, n, l) whole

pub returns-clause-ok : goal.returns-clause-ok
returns-clause-ok c =
    let rs = map read_of c.args.reads.now in
    let ts = ap (λ (b : Built). b.tokens) c.in_ok-tokens.ensures.ok in
    let ns = ap (λ (b : Built). b.names) c.in_ok-tokens.ensures.ok in
    let ls = ap (λ (b : Built). b.literals) c.in_ok-tokens.ensures.ok in
    let values = ap now_of (c.as_slice.ensures ∙ c.values.ensures.rest) ∙ values_named _ in
    let owned = c.in_ok-owned.ensures.ok in
    let t : c.from_vec.result ≡ numbered [] [] (joined_literals rs) = cc in
    let n : c.in_ok-owned.owned ≡ names_after [] (joined_literals rs) = cc in
    let l : c.from_vec-2.result ≡ literals_after [] (joined_literals rs) = cc in
    c.new.ensures ∙ rw (t, n, l) refl
