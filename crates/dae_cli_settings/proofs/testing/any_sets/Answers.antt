use Rattle.std.proofs.Common.{◌≡◌, map, string_bytes, false, true, sym, ap, ◌∙◌, arith, rules}
use Rattle.std.proofs.lemmas.List.{at_drop_all}
use Rattle.dae_cli_settings.specs.Settings.{sets_name}
use Rattle.dae_cli_settings.proofs.Tested.{or_fails, or_holds, words_from}
use Rattle.dae_cli_settings.proofs.testing.any_sets.Goals as goal

pub returns-then-sets_name : goal.returns-then-sets_name
returns-then-sets_name c =
    let e = words_from string_bytes c.args.words.now c.loop-word.word-index c.word-item.result (omega arith) c.word-item.is in
    let all = rw e at c.loop-word.invariant in
    let result : c.sets_name.result ≡ true = search rules in
    let test : sets_name (string_bytes c.word-item.result) c.args.name.now ≡ true = ap (λ w. sets_name w c.args.name.now) (sym c.as_str.ensures.value) ∙ (sym c.sets_name.ensures ∙ result) in
    or_holds _ _ _ test all

pub loop-word-preserved : goal.loop-word-preserved
loop-word-preserved c =
    let e = words_from string_bytes c.args.words.now c.loop-word.word-index c.word-item.result (omega arith) c.word-item.is in
    let all = rw e at c.loop-word.invariant in
    let result : c.sets_name.result ≡ false = search rules in
    let test : sets_name (string_bytes c.word-item.result) c.args.name.now ≡ false = ap (λ w. sets_name w c.args.name.now) (sym c.as_str.ensures.value) ∙ (sym c.sets_name.ensures ∙ result) in
    or_fails _ _ _ test all

pub returns : goal.returns
returns c =
    let e = at_drop_all (map string_bytes) c.args.words.now c.loop-word.word-index (omega arith) in
    rw e at c.loop-word.invariant
