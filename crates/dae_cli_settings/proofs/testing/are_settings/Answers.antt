use Rattle.std.specs.Borrow.{Bor}
use Rattle.std.proofs.Common.{ℕ, List, ◌≡◌, map, string_bytes, false, true, sym, ◌∙◌, arith, rules}
use Rattle.std.proofs.lemmas.List.{at_drop_all}
use Rattle.dae_cli_settings.specs.Settings.{is_new_setting}
use Rattle.dae_cli_settings.proofs.Tested.{first_fails, first_holds, none_set, set_by, words_from}
use Rattle.dae_cli_settings.proofs.testing.are_settings.Goals as goal

pub returns-then-not-is_new_setting : goal.returns-then-not-is_new_setting
returns-then-not-is_new_setting c =
    let e = words_from string_bytes c.args.words.now c.loop-i.i c.index-words-i.result (omega arith) (search rules) in
    let all = rw e at c.loop-i.invariant in
    let result : c.is_new_setting.result ≡ false = search rules in
    let own : is_new_setting (map (λ (n : Bor (List ℕ)). n.now) c.args.names.now) c.as_str.result.now (map string_bytes c.split_at.result.1.now) ≡ false = sym c.is_new_setting.ensures ∙ result in
    let test = rw (c.as_str.ensures.value, c.split_at.ensures.back) at own in
    none_set _ _ c.requires (first_fails _ _ _ test all)

pub loop-i-preserved : goal.loop-i-preserved
loop-i-preserved c =
    let e = words_from string_bytes c.args.words.now c.loop-i.i c.index-words-i.result (omega arith) (search rules) in
    let all = rw e at c.loop-i.invariant in
    let result : c.is_new_setting.result ≡ true = search rules in
    let own : is_new_setting (map (λ (n : Bor (List ℕ)). n.now) c.args.names.now) c.as_str.result.now (map string_bytes c.split_at.result.1.now) ≡ true = sym c.is_new_setting.ensures ∙ result in
    let test = rw (c.as_str.ensures.value, c.split_at.ensures.back) at own in
    first_holds _ _ _ test all

pub returns : goal.returns
returns c =
    let e = at_drop_all (map string_bytes) c.args.words.now c.loop-i.i (omega arith) in
    let all = rw e at c.loop-i.invariant in
    set_by _ _ c.requires (sym all)
