-- What the image of several texts is, and what its report is.
use Rattle.std.specs.Prelude.{◌≡◌, ℕ, List}
use Rattle.dae_image.specs.declared.Image.{Image}
use Rattle.dae_ir_pair.specs.Budget.{IsWithinCap}
use Rattle.dae_program.specs.declared.program.Program.{Program}
use Rattle.dae_report.specs.Reports.{IsReportOf}
use Rattle.dae_compile_promise.specs.Promises.{KeepsMeaning}
use Rattle.dae_accept.specs.Accepted.{IsAccepted}
use Rattle.dae_compile.specs.declared.generating.Compiled.{Compiled}
use Rattle.dae_compile.specs.Accesses.{KeepsAccesses}
use Rattle.dae_compile.specs.Compiled.{IsCompiledFrom}
use Rattle.dae_compile.specs.Sizes.{IsSmallBeside}
use Rattle.dae_cli_options.specs.declared.options.Options.{Options}

-- The texts are accepted as a program, in a memory of the size of the options; the image is compiled from that
-- program, with the limits of the options on calls and on groups; in every order of steps, and at all depths that
-- reach its budget, it does what the program means; its form loads no more than the program reads and stores as it writes, and
-- its access side loads and decides no more than the program wants; no queue needs more than the options allow a group; the
-- image is small beside the texts; and it names the files.
pub record IsImageOf (texts names : List (List ℕ)) (options : Options) (image : Image) : Type 0 where
  pub program : Program
  pub accepted : IsAccepted texts options.memory program
  pub compiled : IsCompiledFrom program options.calls options.cap image
  pub keeps : KeepsMeaning program options.calls image
  pub accesses : KeepsAccesses program options.calls compiled.form
  pub budget : IsWithinCap options.cap image.budget
  pub small : IsSmallBeside texts options.calls image
  pub named : image.names ≡ names

-- the image and the report are of one form
pub record IsCompilationOf (texts names : List (List ℕ)) (options : Options) (c : Compiled)
    : Type 0 where
  pub image : IsImageOf texts names options c.image
  pub report : let from = image.compiled in IsReportOf from.form c.report
