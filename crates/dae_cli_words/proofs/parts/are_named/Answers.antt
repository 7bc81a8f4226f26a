use Rattle.std.proofs.Common.{◌≡◌, map, string_bytes, false, true, sym, ap, ◌∙◌, arith, rules}
use Rattle.std.proofs.lemmas.List.{at_drop_all}
use Rattle.dae_cli_settings.proofs.Laws.{words_from, first_fails, first_holds}
use Rattle.dae_cli_options.specs.Names.{is_file_name}
use Rattle.dae_cli_words.proofs.parts.are_named.Goals as goal

pub returns-then-not-is_file_name : goal.returns-then-not-is_file_name
returns-then-not-is_file_name c =
    let e = words_from string_bytes c.args.words.now c.loop-word.word-index c.word-item.result (omega arith) c.word-item.is in
    let all = rw e at c.loop-word.invariant in
    let result : c.is_file_name.result ≡ false = search rules in
    let test : is_file_name (string_bytes c.word-item.result) ≡ false = ap is_file_name (sym c.as_str.ensures.value) ∙ (sym c.is_file_name.ensures ∙ result) in
    first_fails _ _ _ test all

pub loop-word-preserved : goal.loop-word-preserved
loop-word-preserved c =
    let e = words_from string_bytes c.args.words.now c.loop-word.word-index c.word-item.result (omega arith) c.word-item.is in
    let all = rw e at c.loop-word.invariant in
    let result : c.is_file_name.result ≡ true = search rules in
    let test : is_file_name (string_bytes c.word-item.result) ≡ true = ap is_file_name (sym c.as_str.ensures.value) ∙ (sym c.is_file_name.ensures ∙ result) in
    first_holds _ _ _ test all

pub returns : goal.returns
returns c =
    let e = at_drop_all (map string_bytes) c.args.words.now c.loop-word.word-index (omega arith) in
    rw e at c.loop-word.invariant
