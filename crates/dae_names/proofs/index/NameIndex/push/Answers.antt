use Rattle.std.proofs.Common.{ap, ◌∙◌}
use Rattle.std.proofs.lemmas.List.{map_push}
use Rattle.dae_names.specs.declared.index.IndexedName.{IndexedName}
use Rattle.dae_names.specs.Entries.{name_of, names_of}
use Rattle.dae_names.proofs.Indexed.{indexed_push, indexed_same}
use Rattle.dae_names.proofs.Rows.{pop_undoes_push}
use Rattle.dae_names.proofs.index.NameIndex.push.Goals as goal

pub invariant_of-self-in-Ok : goal.invariant_of-self-in-Ok
invariant_of-self-in-Ok c =
    let es = c.self.inside.entries.items in
    let e : IndexedName = record { name = c.args.name; hidden = c.copied-hidden.result } in
    indexed_push es e c.push.new.self.items c.in_ok-push.ensures.items c.self.inside.latest c.insert.new.self c.len-at.result (c.len-at.ensures ∙ c.self.inside.entries.ok.0) (c.copied-hidden.ensures ∙ c.get.ensures.value) c.in-Ok.ensures.updates c.self.invariant

pub invariant_of-self-in-Err : goal.invariant_of-self-in-Err
invariant_of-self-in-Err c =
    let es = c.self.inside.entries.items in
    let e : IndexedName = record { name = c.args.name; hidden = c.copied-hidden.result } in
    indexed_same es c.pop.new.self.items c.self.inside.latest c.insert.new.self (pop_undoes_push es c.push.new.self.items c.pop.new.self.items e c.push.new.self.len c.push.new.self.ok.0 c.in_ok-push.ensures.items c.pop.ensures.rest) c.in-Err.ensures.err c.self.invariant

pub returns-in-Ok : goal.returns-in-Ok
returns-in-Ok c =
    let e : IndexedName = record { name = c.args.name; hidden = c.copied-hidden.result } in
    rw (← c.self.view_is) (record {
      pushed = ap names_of c.in_ok-push.ensures.items ∙ map_push name_of c.self.inside.entries.items e;
      kept = tt;
    })

pub returns-in-Err : goal.returns-in-Err
returns-in-Err c =
    let es = c.self.inside.entries.items in
    let e : IndexedName = record { name = c.args.name; hidden = c.copied-hidden.result } in
    record {
      pushed = tt;
      kept = ap names_of (pop_undoes_push es c.push.new.self.items c.pop.new.self.items e c.push.new.self.len c.push.new.self.ok.0 c.in_ok-push.ensures.items c.pop.ensures.rest) ∙ c.self.view_is;
    }
