use Rattle.std.proofs.Common.{◌≡◌, ℕ, true, List, [], ◌∷◌, ap, sym, subst, ◌∙◌, refl, rules}
use Rattle.std.specs.Prelude.{IsTrue}
use Rattle.std.specs.List.{list_all}
use Rattle.std.specs.Str.{is_utf8, IsAscii}
use Rattle.std.proofs.lemmas.Bool.{and_from}
use Rattle.std.proofs.lemmas.Str.{IsUtf8-from_ascii, is_utf8-from_IsUtf8}
use Rattle.dae_image.specs.Contents.{is_name}
use Rattle.dae_form_tests.proofs.images.names_of.Goals as goal

pub returns-clause-named : goal.returns-clause-named
returns-clause-named c =
    let name : List ℕ = 97 ∷ (46 ∷ (99 ∷ [])) in
    let ascii : IsAscii name = search rules in
    let text : is_utf8 name ≡ true = is_utf8-from_IsUtf8 name (IsUtf8-from_ascii name ascii) in
    subst (λ (names : List (List ℕ)). IsTrue (list_all is_name names))
    (sym (c.from_vec.ensures ∙ c.in_ok-from_array.ensures.items ∙ ap (λ (n : List ℕ). n ∷ []) c.in_ok-name.ensures)) (and_from (is_utf8 name) true text refl)
