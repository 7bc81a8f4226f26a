use Rattle.std.proofs.Common.{ℕ, List, map, string_bytes, ap, ◌∙◌}
use Rattle.std.specs.Prelude.{String, Vec}
use Rattle.std.specs.declared.alloc.Global.{Global}
use Rattle.dae_accept.specs.Read.{texts_in}
use Rattle.dae_cli_source_jobs.specs.Sources.{due_memory_to_compile}
use Rattle.dae_cli_source_jobs.proofs.OfNumber.{image_of_number}
use Rattle.dae_cli_source_jobs.proofs.numbered.image_of_big.Goals as goal

pub returns-in_default-clause-err : goal.returns-in_default-clause-err
returns-in_default-clause-err c = due_memory_to_compile

pub returns-in-Ok-compilation_of_texts-clause-ok : goal.returns-in-Ok-compilation_of_texts-clause-ok
returns-in-Ok-compilation_of_texts-clause-ok c =
    image_of_number c.args.number c.args.options c.in-Ok-compilation_of_texts.compiled (texts_in c.as_slice-2.result.now) (map string_bytes c.as_slice.result.now)
    (ap (λ (xs : List (Vec ℕ Global)). texts_in xs) c.as_slice-2.ensures.value ∙ c.in-Ok.ensures.texts)
    (ap (λ (xs : List (String Global)). map string_bytes xs) c.as_slice.ensures.value ∙ c.in-Ok.ensures.names)
    c.in-Ok-compilation_of_texts.ensures.ok
