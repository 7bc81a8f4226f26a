-- Words that set options, each at most once, and then name files.
use Rattle.std.specs.Prelude.{◌≡◌, ℕ, ◌≤◌, Bool, true, false, not, ◌&&◌, List, [], ◌∷◌, ◌++◌, map, length, codes, Option, None, option_map, option_and_then, find, is_some, if◌then◌else◌}
use Rattle.std.specs.List.{list_all, list_any}
use Rattle.std.specs.Str.{bytes_eq}
use Rattle.std.specs.Option.{option_map_or}
use Rattle.clap.specs.Lexer.{has_byte, long_of, strip_byte, usize_max}
use Rattle.clap.specs.Matches.{first_value, found_of}
use Rattle.clap.specs.declared.parser.matches.ArgMatches.{ArgMatches}

-- an option's name, and the text of the value that it is given
pub record OptionSetting : Type 0 where
  pub name : List ℕ
  pub value : List ℕ

-- the one word of a setting, as in `--ld=2`
abbrev pub text_of : OptionSetting → List ℕ
text_of s = 45 ∷ 45 ∷ (s.name ++ 61 ∷ s.value)

-- the value that is given to an option, where it is set
abbrev pub given : List OptionSetting → List ℕ → Option (List ℕ)
given settings name = option_map (λ s. s.value) (find (λ s. bytes_eq s.name name) settings)

abbrev pub sets : List OptionSetting → List ℕ → Bool
sets settings name = list_any (λ s. bytes_eq s.name name) settings

abbrev pub is_among : List (List ℕ) → List ℕ → Bool
is_among names name = list_any (λ n. bytes_eq n name) names

-- each sets an option of these names, and none sets one that a later one sets
abbrev pub AreSettings : (names : List (List ℕ)) → List OptionSetting → Type 0
AreSettings names [] = Unit {0}
AreSettings names (s ∷ ss) = (is_among names s.name ≡ true) × (sets ss s.name ≡ false) × AreSettings names ss

-- the word begins with no dash
abbrev pub is_plain : List ℕ → Bool
is_plain word = not (is_some (strip_byte 45 word))

-- the words are settings of options with these names, and then files, of which there are one at least and as many as can be counted
pub record AreParts (names words : List (List ℕ)) (settings : List OptionSetting) (files : List (List ℕ)) : Type 0 where
  pub words_are : words ≡ map text_of settings ++ files
  pub are_settings : AreSettings names settings
  pub some : 1 ≤ length files
  pub few : length files ≤ usize_max
  pub plain : list_all is_plain files ≡ true

-- what the files are called in the matches
abbrev pub files_id : List ℕ
files_id = codes "files"

-- a name that an option can have: it has a byte, has no `=`, and isn't what the files are called
abbrev pub is_name : List ℕ → Bool
is_name name = not (bytes_eq name []) && (not (has_byte 61 name) && not (bytes_eq name files_id))

-- the value that matches have for an option
abbrev pub option_in : ArgMatches → List ℕ → Option (List ℕ)
option_in m name = if bytes_eq name files_id then None else first_value (found_of m) name

-- the name of the option that a word `--name=value` sets, and whether that is this one
abbrev pub name_in : List ℕ → Option (List ℕ)
name_in word = option_and_then (λ p. option_map (λ v. p.0) p.1) (long_of word)

abbrev pub sets_name : List ℕ → List ℕ → Bool
sets_name word name = option_map_or (λ n. bytes_eq n name) (name_in word) false

-- the word sets an option of these names, and none of the rest sets it
abbrev pub is_new_setting : (names : List (List ℕ)) → (word : List ℕ) → (rest : List (List ℕ)) → Bool
is_new_setting names word rest = option_map_or (λ n. is_among names n && not (list_any (λ w. sets_name w n) rest)) (name_in word) false
