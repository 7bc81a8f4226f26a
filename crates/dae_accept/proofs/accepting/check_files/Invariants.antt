use Rattle.dae_accept.proofs.Files.{Starts}
use Rattle.dae_accept.proofs.accepting.check_files.Given as goal

abbrev pub invariant-loop-file : goal.invariant-loop-file
invariant-loop-file l = Starts l.files l.file-index l.all.items
