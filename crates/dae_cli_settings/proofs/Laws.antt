-- Laws that crates above cite: words are settings in one way.
use Rattle.std.proofs.Common.{◌≡◌, ℕ, true, List, [], ◌∷◌, map, refl, sym, ap, ap₂, ◌∙◌}
use Rattle.std.specs.Prelude.{Option, Some, unwrap_or}
use Rattle.std.specs.Option.{option_map_or}
use Rattle.std.specs.List.{list_all}
use Rattle.clap.specs.Lexer.{long_of}
use Rattle.dae_cli_settings.specs.Settings.{AreSettings, OptionSetting, is_name, text_of}
use Rattle.dae_cli_settings.proofs.Words.{long_is}
use Rattle.dae_cli_settings.proofs.Walking.{named}
pub use Rattle.dae_cli_settings.proofs.Tested.{words_from, first_fails, first_holds}

same_setting : (s t : OptionSetting) → is_name s.name ≡ true → is_name t.name ≡ true → text_of s ≡ text_of t → s ≡ t
same_setting s t h k e =
    let parts : Some (s.name, Some s.value) ≡ Some (t.name, Some t.value) = sym (long_is s h) ∙ ap long_of e ∙ long_is t k in
    let name : s.name ≡ t.name = ap (λ (o : Option (List ℕ × Option (List ℕ))). option_map_or (λ p. p.0) o []) parts in
    let value : s.value ≡ t.value = ap (λ (o : Option (List ℕ × Option (List ℕ))). option_map_or (λ p. unwrap_or p.1 []) o []) parts in
    λ i. record { name = name i; value = value i }

pub same_settings : (names : List (List ℕ)) (ss ts : List OptionSetting) → list_all is_name names ≡ true → AreSettings names ss → AreSettings names ts → map text_of ss ≡ map text_of ts → ss ≡ ts
same_settings names [] [] ok h k e = refl
same_settings names [] (t ∷ ts) ok h k e = absurd (cc)
same_settings names (s ∷ ss) [] ok h k e = absurd (cc)
same_settings names (s ∷ ss) (t ∷ ts) ok h k e =
    ap₂ (λ (x : OptionSetting) (xs : List OptionSetting). x ∷ xs) (same_setting s t (named names s.name ok h.0) (named names t.name ok k.0) (cc)) (same_settings names ss ts ok h.2 k.2 (cc))
