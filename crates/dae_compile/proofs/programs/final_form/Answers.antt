use Rattle.std.proofs.Common.{◌∙◌}
use Rattle.dae_alias.specs.Forms.{KeepsForm}
use Rattle.dae_compile.proofs.Fitting.{room_later}
use Rattle.dae_compile.proofs.Passes.{IsBehind, all_passes_before, final_later, renamed_behind, up_to_checks, up_to_commons}
use Rattle.dae_compile.proofs.Prepared.{all_reusable, functions_small, passes_prepared}
use Rattle.dae_compile.proofs.programs.final_form.Goals as goal

pub without_commons-requires : goal.without_commons-requires
without_commons-requires c =
    let made = c.in_ok-lowered.ensures in
    let one = renamed_behind c.forms_are_renamed.ensures c.in_ok-lowered.lowered c.in_ok-renamed.renamed made.scoped c.in_ok-renamed.ensures in
    one.scoped

pub without_known_checks-requires : goal.without_known_checks-requires
without_known_checks-requires c =
    let common = c.in_ok-common.common in
    let made = c.in_ok-lowered.ensures in
    let one = up_to_commons c.in_ok-lowered.lowered c.in_ok-renamed.renamed common common common c.forms_are_renamed.ensures c.forms_are_hoisted.ensures c.forms_are_commoned.ensures made.scoped c.in_ok-renamed.ensures c.in_ok-common.ensures in
    one.scoped

pub with_sums_at_accesses-requires : goal.with_sums_at_accesses-requires
with_sums_at_accesses-requires c =
    let bare = c.in_ok-bare.bare in
    let made = c.in_ok-lowered.ensures in
    let one = up_to_checks c.in_ok-lowered.lowered c.in_ok-renamed.renamed c.in_ok-common.common bare bare c.forms_are_renamed.ensures c.forms_are_hoisted.ensures c.forms_are_commoned.ensures c.checks_are_elided.ensures made.scoped
    c.in_ok-renamed.ensures c.in_ok-common.ensures c.in_ok-bare.ensures in
    one.scoped

pub reuse_loads-requires : goal.reuse_loads-requires
reuse_loads-requires c =
    let lowered = c.in_ok-lowered.lowered in
    let threaded = c.in_ok-threaded.threaded in
    let made = c.in_ok-lowered.ensures in
    let prepared = passes_prepared lowered c.in_ok-renamed.renamed c.in_ok-common.common c.in_ok-bare.bare c.in_ok-near.near threaded c.renaming_keeps_sizes.ensures c.hoisting_keeps_sizes.ensures c.commoning_keeps_counts.ensures c.elision_keeps_sizes.ensures
    c.threading_adds_nothing.ensures c.in_ok-renamed.ensures c.in_ok-common.ensures c.in_ok-bare.ensures c.in_ok-near.ensures c.in_ok-threaded.ensures in
    all_reusable lowered.functions threaded.functions prepared (c.requires.variables lowered made.lowered)

pub returns-clause-made : goal.returns-clause-made
returns-clause-made c =
    let lowered = c.in_ok-lowered.lowered in
    let named = c.in_ok-renamed.renamed in
    let common = c.in_ok-common.common in
    let bare = c.in_ok-bare.bare in
    let near = c.in_ok-near.near in
    let threaded = c.in_ok-threaded.threaded in
    let ir = c.in_ok-ir.ir in
    let made = c.in_ok-lowered.ensures in
    let reused = c.in_ok-ir.ensures in
    let before : IsBehind lowered threaded = all_passes_before lowered named common bare near threaded c.forms_are_renamed.ensures c.forms_are_hoisted.ensures c.forms_are_commoned.ensures c.checks_are_elided.ensures c.forms_are_threaded.ensures made.scoped
    c.in_ok-renamed.ensures c.in_ok-common.ensures c.in_ok-bare.ensures c.in_ok-near.ensures c.in_ok-threaded.ensures in
    let keeps : KeepsForm threaded ir = c.forms_are_reused.ensures threaded ir before.scoped reused in
    let prepared = passes_prepared lowered named common bare near threaded c.renaming_keeps_sizes.ensures c.hoisting_keeps_sizes.ensures c.commoning_keeps_counts.ensures c.elision_keeps_sizes.ensures c.threading_adds_nothing.ensures
    c.in_ok-renamed.ensures c.in_ok-common.ensures c.in_ok-bare.ensures c.in_ok-near.ensures c.in_ok-threaded.ensures in
    record {
      first = lowered;
      lowered = made.lowered;
      later = final_later lowered threaded ir before reused keeps;
      small = functions_small c.reuse_stays_small.ensures lowered.functions threaded.functions ir.functions prepared reused.functions;
      no_second = keeps.no_second;
      depth = reused.calls ∙ before.calls ∙ made.calls;
    }

pub returns-clause-scoped : goal.returns-clause-scoped
returns-clause-scoped c =
    let lowered = c.in_ok-lowered.lowered in
    let threaded = c.in_ok-threaded.threaded in
    let ir = c.in_ok-ir.ir in
    let made = c.in_ok-lowered.ensures in
    let before : IsBehind lowered threaded = all_passes_before lowered c.in_ok-renamed.renamed c.in_ok-common.common c.in_ok-bare.bare c.in_ok-near.near threaded c.forms_are_renamed.ensures c.forms_are_hoisted.ensures c.forms_are_commoned.ensures c.checks_are_elided.ensures
    c.forms_are_threaded.ensures made.scoped c.in_ok-renamed.ensures c.in_ok-common.ensures c.in_ok-bare.ensures c.in_ok-near.ensures c.in_ok-threaded.ensures in
    let keeps : KeepsForm threaded ir = c.forms_are_reused.ensures threaded ir before.scoped c.in_ok-ir.ensures in
    keeps.scoped

pub returns-clause-first : goal.returns-clause-first
returns-clause-first c =
    let lowered = c.in_ok-lowered.lowered in
    let threaded = c.in_ok-threaded.threaded in
    let ir = c.in_ok-ir.ir in
    let made = c.in_ok-lowered.ensures in
    let before : IsBehind lowered threaded = all_passes_before lowered c.in_ok-renamed.renamed c.in_ok-common.common c.in_ok-bare.bare c.in_ok-near.near threaded c.forms_are_renamed.ensures c.forms_are_hoisted.ensures c.forms_are_commoned.ensures c.checks_are_elided.ensures
    c.forms_are_threaded.ensures made.scoped c.in_ok-renamed.ensures c.in_ok-common.ensures c.in_ok-bare.ensures c.in_ok-near.ensures c.in_ok-threaded.ensures in
    let keeps : KeepsForm threaded ir = c.forms_are_reused.ensures threaded ir before.scoped c.in_ok-ir.ensures in
    keeps.first (before.first made.first)

pub returns-clause-room : goal.returns-clause-room
returns-clause-room c =
    let lowered = c.in_ok-lowered.lowered in
    let threaded = c.in_ok-threaded.threaded in
    let ir = c.in_ok-ir.ir in
    let made = c.in_ok-lowered.ensures in
    let reused = c.in_ok-ir.ensures in
    let before : IsBehind lowered threaded = all_passes_before lowered c.in_ok-renamed.renamed c.in_ok-common.common c.in_ok-bare.bare c.in_ok-near.near threaded c.forms_are_renamed.ensures c.forms_are_hoisted.ensures c.forms_are_commoned.ensures c.checks_are_elided.ensures
    c.forms_are_threaded.ensures made.scoped c.in_ok-renamed.ensures c.in_ok-common.ensures c.in_ok-bare.ensures c.in_ok-near.ensures c.in_ok-threaded.ensures in
    let keeps : KeepsForm threaded ir = c.forms_are_reused.ensures threaded ir before.scoped reused in
    room_later _ lowered ir (final_later lowered threaded ir before reused keeps) made.room
