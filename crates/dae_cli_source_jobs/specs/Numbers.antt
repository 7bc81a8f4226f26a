-- What is due for the source of a number.
use Rattle.std.specs.Prelude.{ℕ, [], ◌∷◌}
use Rattle.dae_big.specs.Texts.{big_name, big_text}
use Rattle.dae_image.specs.declared.Image.{Image}
use Rattle.dae_cli_options.specs.declared.options.Options.{Options}
use Rattle.dae_cli_drive.specs.Puts.{Answer}
use Rattle.dae_cli_source_jobs.specs.Sources.{DueOfTexts}

-- what is due for that text alone, as the file big.c
abbrev pub DueOfBig : ℕ → Options → (Image → Answer → Type 0) → Answer → Type 0
DueOfBig number = DueOfTexts (big_name ∷ []) (big_text number ∷ [])
