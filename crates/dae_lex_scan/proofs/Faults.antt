-- A literal's inside byte by byte.
use Rattle.std.proofs.Common.{◌≡◌, ℕ, ◌+◌, ◌<◌, ◌∷◌, ◌∙◌, Option, option_map}
use Rattle.dae_tree.specs.declared.faults.TextFault.{TextFault}

-- a fault further on
abbrev pub on_by : ℕ → Option (TextFault × ℕ) → Option (TextFault × ℕ)
on_by i found = option_map (λ f. (f.0, i + f.1)) found
