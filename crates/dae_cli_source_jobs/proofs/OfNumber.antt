-- The image of the source of a number, among the images of texts.
use Rattle.std.proofs.Common.{◌≡◌, ℕ, List, [], ◌∷◌, subst}
use Rattle.dae_big.specs.Texts.{big_name, big_text}
use Rattle.dae_cli_options.specs.declared.options.Options.{Options}
use Rattle.dae_compile.specs.Images.{IsCompilationOf, IsImageOf}
use Rattle.dae_compile.specs.declared.generating.Compiled.{Compiled}

pub image_of_number : (n : ℕ) (options : Options) (compiled : Compiled) (texts names : List (List ℕ)) → texts ≡ big_text n ∷ [] → names ≡ big_name ∷ []
    → IsCompilationOf texts names options compiled → IsImageOf (big_text n ∷ []) (big_name ∷ []) options compiled.image
image_of_number n options compiled texts names t m made =
    subst (λ (ts : List (List ℕ)). IsImageOf ts (big_name ∷ []) options compiled.image) t
    (subst (λ (ns : List (List ℕ)). IsImageOf texts ns options compiled.image) m made.image)
