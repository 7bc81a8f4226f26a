use Rattle.std.proofs.Common.{◌≡◌, ◌-◌, ◌++◌, ◌∷◌, [], length, map, string_bytes, sym, ap, ◌∙◌, subst, arith, rules, List, ℕ}
use Rattle.std.proofs.lemmas.List.{at_drop_all, map-append}
use Rattle.std.proofs.lemmas.Result.{err_from_is_err_and}
use Rattle.dae_accept.specs.Read.{texts_in}
use Rattle.dae_cli_source_jobs.specs.Fetching.{most_source}
use Rattle.dae_cli_source_jobs.proofs.OnWay.{IsOnWay, texts_from, way_begins, way_ends, way_same, way_stops, way_told}
use Rattle.dae_cli_source_jobs.proofs.fetching.fetch_all.Goals as goal

pub returns-in_err-text-clause-err : goal.returns-in_err-text-clause-err
returns-in_err-text-clause-err g c =
    let p = err_from_is_err_and c.from_residual.result c.from_residual.ensures.1 in
    let e = texts_from string_bytes c.args.names.now c.loop-name.name-index c.name-item.result (omega arith) c.name-item.is in
    let way = rw e at c.loop-name.invariant.way in
    let stop = rw c.as_str.ensures.value at c.in_err-text.ensures.err in
    rw (p.1, p.2) (way_stops _ _ _ c.loop-name.invariant.held c.loop-name.invariant.counted way stop)

pub loop-name-preserved : goal.loop-name-preserved
loop-name-preserved g c =
    let e = texts_from string_bytes c.args.names.now c.loop-name.name-index c.name-item.result (omega arith) c.name-item.is in
    let way = rw e at c.loop-name.invariant.way in
    let few = c.loop-name.invariant.few in
    let counted = c.loop-name.invariant.counted in
    let more = c.fetch_one.ensures.counted in
    let next = way_told _ c.loop-name.invariant.held way (rw c.as_str.ensures.value at c.in_ok-text.ensures.text) c.in_ok-text.ensures.short in
    let size : c.len.result ≡ length c.in_ok-text.text.items = search rules in
    let pushed : c.push.new.self.items ≡ c.loop-name.texts.items ++ (c.in_ok-text.text ∷ []) = search rules in
    record {
      few = omega (arith, few);
      way = way_same next (ap (λ (k : ℕ). c.loop-name.left - k) (sym size)) (sym (ap texts_in pushed ∙ map-append (λ t. t.items) c.loop-name.texts.items (c.in_ok-text.text ∷ [])));
      held = λ name. c.fetch_one.ensures.held name ∙ c.loop-name.invariant.held name;
      counted = omega (arith, counted, more);
      given = c.fetch_one.ensures.given ∙ c.loop-name.invariant.given;
    }

pub returns-clause-ok : goal.returns-clause-ok
returns-clause-ok g c =
    let e = at_drop_all (map string_bytes) c.args.names.now c.loop-name.name-index (omega arith) in
    way_ends _ _ _ _ _ (rw e at c.loop-name.invariant.way)
