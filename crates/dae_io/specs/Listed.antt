-- Texts that are listed under names.
use Rattle.std.specs.Prelude.{ℕ, List, [], option_map, unwrap_or}
use Rattle.std.specs.List.{find}
use Rattle.std.specs.Str.{bytes_eq}
use Rattle.dae_io.specs.declared.calm.NamedText.{NamedText}

-- the first text under a name, or the empty text
abbrev pub first_text : List NamedText → List ℕ → List ℕ
first_text texts name = unwrap_or (option_map (λ t. t.text.now) (find (λ t. bytes_eq t.name.now name) texts)) []
