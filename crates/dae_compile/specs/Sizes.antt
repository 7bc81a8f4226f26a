-- How small a final form is beside the lowered one, and the image of several texts beside these.
use Rattle.std.specs.Prelude.{ℕ, ◌+◌, ◌-◌, ◌*◌, ◌≤◌, List, [], ◌∷◌, length}
use Rattle.dae_image.specs.declared.Image.{Image}
use Rattle.dae_ir.specs.Form.{form_of}
use Rattle.dae_ir.specs.Sizes.{form_size}
use Rattle.dae_ir.specs.declared.form.Function.{Function}
use Rattle.dae_lower_formed.specs.Code.{loaded_burden, loads_in}
use Rattle.dae_compile.specs.Generated.{calls_of_form}
use Rattle.dae_tree.specs.Files.{FileContents}
use Rattle.dae_accept.specs.Read.{AreRead}
use Rattle.dae_sizes.specs.Sources.{AreUpTo, tokens_in, bytes_in}

-- A function of a final form, beside that of the lowered one: the words that bound its code, 28 a unit of size and 42 more a
-- call, are at most what the lowered code weighs, 14 for each half of an item, with a half more for each load; and it has at
-- most one variable more for every second variable beyond 9 and for every second load.
pub record IsSmallBy (f g : Function) : Type 0 where
  pub words : 28 * form_size (form_of g.body) + 42 * calls_of_form (form_of g.body)
      ≤ 14 * loaded_burden (form_of f.body)
  pub variables : 2 * g.variables
      ≤ 2 * f.variables + (f.variables - 9) + loads_in (form_of f.body)

abbrev pub AreSmallBy : List Function → List Function → Type 0
AreSmallBy [] [] = Unit {0}
AreSmallBy [] (g ∷ gs) = ⊥
AreSmallBy (f ∷ fs) [] = ⊥
AreSmallBy (f ∷ fs) (g ∷ gs) = IsSmallBy f g × AreSmallBy fs gs

-- 224 words for each token of the files, 112 for each byte of their literals, and 8
abbrev pub words_beside : List FileContents → ℕ
words_beside files = 224 * tokens_in files + 112 * bytes_in files + 8

-- in bytes, 8 words for each of n tokens in each of so many calls
abbrev pub private_beside : (calls n : ℕ) → ℕ
private_beside calls n = 4 * (calls * (8 * n))

-- The texts are read as files; neither code has more words than that for these files, and neither private memory more
-- bytes than that where no definition in them has more than n tokens.
pub record IsSmallBeside (texts : List (List ℕ)) (calls : ℕ) (image : Image) : Type 0 where
  pub files : List FileContents
  pub read : AreRead texts files
  pub code_a : length image.code_a ≤ words_beside files
  pub code_e : length image.code_e ≤ words_beside files
  pub private_a : (n : ℕ) → AreUpTo n files → image.private_a ≤ private_beside calls n
  pub private_e : (n : ℕ) → AreUpTo n files → image.private_e ≤ private_beside calls n
