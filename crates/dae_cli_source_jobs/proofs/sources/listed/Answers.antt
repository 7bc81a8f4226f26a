use Rattle.std.proofs.Common.{◌≡◌, ◌++◌, ◌∷◌, [], map, string_bytes, append_assoc, append-nil, sym, ap, ◌∙◌, subst, true, arith, rules}
use Rattle.std.specs.Str.{is_utf8}
use Rattle.std.proofs.lemmas.List.{at_drop_all}
use Rattle.std.proofs.lemmas.Str.{is_utf8-from_IsUtf8}
use Rattle.dae_cli_source_jobs.proofs.OnWay.{texts_from}
use Rattle.dae_cli_source_jobs.proofs.Stopped.{all_with_last}
use Rattle.dae_cli_source_jobs.proofs.sources.listed.Goals as goal

pub loop-name-preserved : goal.loop-name-preserved
loop-name-preserved c =
    let e = texts_from string_bytes c.args.names.now c.loop-name.name-index c.name-item.result (omega arith) c.name-item.is in
    let all = rw e at c.loop-name.invariant.names in
    let utf8 : is_utf8 (string_bytes c.name-item.result) ≡ true = rw c.as_str-name.ensures.value at (is_utf8-from_IsUtf8 _ c.as_str-name.utf8) in
    let pushed : c.push.new.self.items ≡ c.loop-name.listed.items ++ (string_bytes c.name-item.result ∷ []) = search rules in
    record {
      names = rw pushed (append_assoc c.loop-name.listed.items (string_bytes c.name-item.result ∷ []) _ ∙ all);
      utf8 = rw pushed (all_with_last is_utf8 _ _ c.loop-name.invariant.utf8 utf8);
    }

pub returns-clause-listed : goal.returns-clause-listed
returns-clause-listed c =
    let e = at_drop_all (map string_bytes) c.args.names.now c.loop-name.name-index (omega arith) in
    let all = rw e at c.loop-name.invariant.names in
    let items : c.loop-name.listed.items ≡ map string_bytes c.args.names.now = sym (append-nil c.loop-name.listed.items) ∙ all in
    rw (← items) c.from_vec.ensures
