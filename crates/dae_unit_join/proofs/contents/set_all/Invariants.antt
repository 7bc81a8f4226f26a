use Rattle.std.proofs.Common.{◌≡◌, drop}
use Rattle.dae_unit_join.specs.Contents.{set_all}
use Rattle.dae_unit_join.proofs.contents.set_all.Given as goal

abbrev pub invariant-loop-setting : goal.invariant-loop-setting
invariant-loop-setting l =
    set_all l.addresses l.start l.content (drop l.setting-index l.settings) ≡ set_all l.addresses l.start l.initial.content l.settings
