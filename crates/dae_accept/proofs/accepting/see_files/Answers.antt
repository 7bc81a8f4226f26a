use Rattle.std.proofs.Common.{◌≡◌, length, subst, take, arith}
use Rattle.std.proofs.Math.Seq.{take-length}
use Rattle.std.proofs.lemmas.List.Elements.{All-more}
use Rattle.std.specs.List.{All}
use Rattle.dae_tree.specs.Files.{IsFile}
use Rattle.dae_accept.proofs.accepting.see_files.Goals as goal

pub loop-file-preserved : goal.loop-file-preserved
loop-file-preserved c =
    All-more IsFile c.args.files.now c.loop-file.file-index c.file-item.result c.loop-file-test.true c.loop-file.invariant
    (subst IsFile c.file-item.is c.externals.ensures.file)

pub returns : goal.returns
returns c =
    let e : c.loop-file.file-index ≡ length c.args.files.now = omega (arith, c.loop-file.auto.file-index-end, c.loop-file-test.false) in
    subst (All IsFile) (take-length c.args.files.now) (subst (λ n. All IsFile (take n c.args.files.now)) e c.loop-file.invariant)
