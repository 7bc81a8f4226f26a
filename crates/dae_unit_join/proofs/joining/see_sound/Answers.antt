use Rattle.std.proofs.Common.{◌≡◌, length, subst, take, arith}
use Rattle.std.proofs.Math.Seq.{take-length}
use Rattle.std.proofs.lemmas.List.Elements.{All-more}
use Rattle.std.specs.List.{All}
use Rattle.dae_types_typed.specs.Sound.{IsSound}
use Rattle.dae_unit_join.proofs.joining.see_sound.Goals as goal

pub loop-file-preserved : goal.loop-file-preserved
loop-file-preserved c =
    All-more IsSound c.args.files.now c.loop-file.file-index c.file-item.result c.loop-file-test.true c.loop-file.invariant
    (subst IsSound c.file-item.is c.parts.ensures.sound)

pub returns : goal.returns
returns c =
    let e : c.loop-file.file-index ≡ length c.args.files.now = omega (arith, c.loop-file.auto.file-index-end, c.loop-file-test.false) in
    subst (All IsSound) (take-length c.args.files.now) (subst (λ n. All IsSound (take n c.args.files.now)) e c.loop-file.invariant)
