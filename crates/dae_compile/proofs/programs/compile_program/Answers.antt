use Rattle.std.proofs.Common.{ℕ, ◌<◌, List, refl, subst}
use Rattle.std.specs.List.{All}
use Rattle.dae_compile.proofs.Fitting.{compiled_if, deep_if, fits, keeps_if, long_if}
use Rattle.dae_compile.proofs.programs.compile_program.Goals as goal

pub generate-requires-clause-fits : goal.generate-requires-clause-fits
generate-requires-clause-fits c =
    let made = c.in_ok-ir.ensures in
    fits c.args.program c.args.calls c.in_ok-ir.ir c.args.program.content c.args.names refl made.made made.room
    c.requires.least c.requires.aligned c.requires.called c.requires.shallow
    (subst (λ (bytes : List ℕ). All (λ b. b < 256) bytes) c.as_slice.ensures c.see_bytes.ensures) c.requires.files c.requires.named

pub returns-clause-keeps : goal.returns-clause-keeps
returns-clause-keeps c =
    let made = c.in_ok-ir.ensures in
    keeps_if c.args.program c.args.calls c.in_ok-ir.ir c.generate.result c.image_keeps_meaning.ensures c.requires.called made.made
    c.generate.ensures.content c.generate.ensures.does

pub returns-clause-compiled : goal.returns-clause-compiled
returns-clause-compiled c =
    let made = c.in_ok-ir.ensures in
    compiled_if c.args.program c.args.calls c.args.cap c.in_ok-ir.ir c.generate.result made.made
    c.generate.ensures.compiled c.generate.ensures.report c.generate.ensures.does c.generate.ensures.content c.generate.ensures.short c.generate.ensures.private

pub returns-clause-long : goal.returns-clause-long
returns-clause-long c =
    let made = c.in_ok-ir.ensures in
    long_if c.args.program c.args.calls c.in_ok-ir.ir c.generate.result made.made c.generate.ensures.err

pub returns-clause-deep : goal.returns-clause-deep
returns-clause-deep c =
    let made = c.in_ok-ir.ensures in
    deep_if c.args.program c.args.calls c.in_ok-ir.ir c.generate.result made.made c.generate.ensures.deep
