use Rattle.dae_accept.proofs.Files.{last_typed}
use Rattle.dae_accept.proofs.accepting.check_files.Goals as goal

pub returns : goal.returns
returns c = last_typed c.args.files.now c.loop-file.file-index c.loop-file.all.items c.loop-file-test.false c.loop-file.invariant
