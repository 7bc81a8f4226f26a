use Rattle.std.proofs.Common.{refl, ◌∙◌}
use Rattle.dae_link.proofs.Fitting.{linked_fits}
use Rattle.dae_link.proofs.Exact.{exact}
use Rattle.dae_link.proofs.Made.{is_made}
use Rattle.dae_link.proofs.Among.{has_marks}
use Rattle.dae_link.proofs.Marking.{same_room, same_marks}
use Rattle.dae_link.proofs.linking.link.Goals as goal

pub invariant_of-result : goal.invariant_of-result
invariant_of-result c =
    let a = c.in_ok-a.ensures in let e = c.in_ok-e.ensures in
    rw c.from_vec.ensures (record { fits = linked_fits c.args.pair.now c.args.budget c.args.content c.args.names c.requires _ _ _ _ a.some a.few e.some e.few a.private e.private a.words e.words _ _ _ _ c.len.ensures c.len-2.ensures c.len-3.ensures c.in_ok-lines.ensures })

pub returns-clause-compiled : goal.returns-clause-compiled
returns-clause-compiled c = λ ir tables cap classes is_pair is_budget. record {
  tables = tables;
  pair = c.args.pair.now;
  classes = classes;
  is_pair = is_pair;
  budget = is_budget;
  calls = is_pair.a.calls;
  made = is_made ir tables cap c.args.pair.now is_pair _ c.in_ok-a.a.private c.in_ok-e.e.private c.in_ok-a.ensures.code c.in_ok-e.ensures.code refl refl refl;
  exact = exact c.args.pair.now c.args.budget _ _ c.requires.side_a c.requires.side_e c.in_ok-a.ensures.uses c.in_ok-e.ensures.uses (c.pair_uses.ensures ir tables cap c.args.pair.now c.args.budget is_pair is_budget);
  registers = record { a = c.in_ok-a.ensures.registers; e = c.in_ok-e.ensures.registers };
  marks = has_marks c.args.pair.now _ _ _ c.in_ok-a.ensures.places c.in_ok-e.ensures.places
      (c.from_vec.ensures ∙ same_marks _ _ _ _ _ _ _ (same_room _ _ _ _ _ _ c.len.ensures c.len-2.ensures c.len-3.ensures) c.as_slice.ensures.value c.as_slice-2.ensures.value c.in_ok-lines.ensures.made);
}

pub returns-clause-does : goal.returns-clause-does
returns-clause-does c = λ ir tables cap ready classes is_pair is_budget.
    c.made_does_form.ensures ir tables cap c.args.pair.now _ ready classes is_pair is_budget
    (is_made ir tables cap c.args.pair.now is_pair _ c.in_ok-a.a.private c.in_ok-e.e.private c.in_ok-a.ensures.code c.in_ok-e.ensures.code refl refl refl)

pub returns-clause-private : goal.returns-clause-private
returns-clause-private c = record { a = (c.in_ok-a.a.private, refl, c.in_ok-a.ensures.frames); e = (c.in_ok-e.e.private, refl, c.in_ok-e.ensures.frames) }

pub returns-clause-short : goal.returns-clause-short
returns-clause-short c = record { a = c.in_ok-a.ensures.short; e = c.in_ok-e.ensures.short }

pub returns-clause-marks : goal.returns-clause-marks
returns-clause-marks c =
    has_marks c.args.pair.now _ _ _ c.in_ok-a.ensures.places c.in_ok-e.ensures.places
    (c.from_vec.ensures ∙ same_marks _ _ _ _ _ _ _ (same_room _ _ _ _ _ _ c.len.ensures c.len-2.ensures c.len-3.ensures) c.as_slice.ensures.value c.as_slice-2.ensures.value c.in_ok-lines.ensures.made)
