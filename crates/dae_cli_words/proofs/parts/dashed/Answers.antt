use Rattle.std.proofs.Common.{◌≡◌, map, string_bytes, false, true, sym, ap, ◌∙◌, arith, rules}
use Rattle.std.proofs.lemmas.List.{at_drop_all}
use Rattle.dae_cli_settings.proofs.Laws.{words_from}
use Rattle.dae_cli_options.specs.Names.{begins_with_dash}
use Rattle.dae_cli_words.proofs.Stepping.{stops_here, goes_on}
use Rattle.dae_cli_words.proofs.parts.dashed.Goals as goal

pub returns-then-not-begins_with_dash : goal.returns-then-not-begins_with_dash
returns-then-not-begins_with_dash c =
    let e = words_from string_bytes c.args.words.now c.loop-word.word-index c.word-item.result (omega arith) c.word-item.is in
    let all = rw e at c.loop-word.invariant.left in
    let result : c.begins_with_dash.result ≡ false = search rules in
    let test : begins_with_dash (string_bytes c.word-item.result) ≡ false = ap begins_with_dash (sym c.as_str.ensures.value) ∙ (sym c.begins_with_dash.ensures ∙ result) in
    stops_here _ _ _ _ test all

pub loop-word-preserved : goal.loop-word-preserved
loop-word-preserved c =
    let e = words_from string_bytes c.args.words.now c.loop-word.word-index c.word-item.result (omega arith) c.word-item.is in
    let all = rw e at c.loop-word.invariant.left in
    let result : c.begins_with_dash.result ≡ true = search rules in
    let test : begins_with_dash (string_bytes c.word-item.result) ≡ true = ap begins_with_dash (sym c.as_str.ensures.value) ∙ (sym c.begins_with_dash.ensures ∙ result) in
    let so_far = c.loop-word.invariant.so_far in
    record { so_far = omega (arith, so_far); left = goes_on _ _ _ _ test all }

pub returns : goal.returns
returns c =
    let e = at_drop_all (map string_bytes) c.args.words.now c.loop-word.word-index (omega arith) in
    let all = rw e at c.loop-word.invariant.left in
    omega (arith, all)
