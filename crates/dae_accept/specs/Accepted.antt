-- Which texts are accepted in a memory of so many bytes, and as which program; and for what other texts are refused.
use Rattle.std.specs.Prelude.{◌≡◌, ◌≢◌, ◌⊎◌, ℕ, List, [], ◌∷◌, Some, Err}
use Rattle.dae_tree.specs.Files.{FileContents}
use Rattle.dae_types_kinds.specs.declared.rules.Breach.{Breach}
use Rattle.dae_types_rules.specs.Plan.{IsChecked}
use Rattle.dae_types_typed.specs.declared.files.FileParts.{FileParts}
use Rattle.dae_program.specs.declared.program.Program.{Program}
use Rattle.dae_accept.specs.Read.{AreRead, HasNoTokens, IsTreeRefusal}
use Rattle.dae_types.specs.Answers.{IsTypedFile, plan_in, start_in}
use Rattle.dae_unit.specs.declared.errors.JoinError.{JoinError}
use Rattle.dae_unit.specs.Joining.{cause}
use Rattle.dae_unit_join.specs.Promise.{IsJoinedTo}
use Rattle.dae_accept.specs.declared.error.CompileError.{CompileError}
use Rattle.dae_accept.specs.declared.error.CompileError.TheVariants as errors

-- in none of these files is a rule of types broken, and that is what they come to, file by file
abbrev pub AreTyped : List FileContents → List FileParts → Type 0
AreTyped [] [] = Unit {0}
AreTyped [] (t ∷ ts) = ⊥
AreTyped (f ∷ fs) [] = ⊥
AreTyped (f ∷ fs) (t ∷ ts) = IsTypedFile f t × AreTyped fs ts

-- in the first of these files that breaks a rule of types, that rule is broken at that place
abbrev pub IsFirstBroken : List FileContents → Breach → Type 0
IsFirstBroken [] b = ⊥
IsFirstBroken (f ∷ fs) b =
    IsChecked (plan_in f) (start_in f) (Err b) ⊎ ((t : FileParts) × IsTypedFile f t × IsFirstBroken fs b)

-- Each text has tokens within the room that those before it left, and they a tree within the limits; no rule of
-- types is broken in any; and in the memory the files join to that program.
pub record IsAccepted (texts : List (List ℕ)) (memory : ℕ) (p : Program) : Type 0 where
  pub files : List FileContents
  pub read : AreRead texts files
  pub typed : List FileParts
  pub checked : AreTyped files typed
  pub joined : IsJoinedTo typed memory p

-- each text has tokens and a tree, and a rule of types is broken: where several are in the first such file, any of
-- them
pub record IsRuleRefusal (texts : List (List ℕ)) (b : Breach) : Type 0 where
  pub files : List FileContents
  pub read : AreRead texts files
  pub first : IsFirstBroken files b

-- each text has tokens, a tree and types, and the files don't join: the first cause
pub record IsJoinRefusal (texts : List (List ℕ)) (memory : ℕ) (e : JoinError) : Type 0 where
  pub files : List FileContents
  pub read : AreRead texts files
  pub typed : List FileParts
  pub checked : AreTyped files typed
  pub first : cause typed memory ≡ Some e

-- The first stage that fails, of all tokens, all trees, all types and joining, with what it says. Want of memory is
-- free.
abbrev pub IsRefusedFor : List (List ℕ) → (memory : ℕ) → CompileError → Type 0
IsRefusedFor texts memory (errors.Lex e) = HasNoTokens texts e
IsRefusedFor texts memory (errors.Tree e) = IsTreeRefusal texts e
IsRefusedFor texts memory (errors.Rule b) = IsRuleRefusal texts b
IsRefusedFor texts memory (errors.Join e) = IsJoinRefusal texts memory e
IsRefusedFor texts memory errors.Memory = Unit {0}

-- no texts that are accepted are refused so
abbrev pub IsNeverBeside : CompileError → Type 0
IsNeverBeside e =
    (texts : List (List ℕ)) (memory : ℕ) (p : Program) → IsAccepted texts memory p → ¬ IsRefusedFor texts memory e

-- each text has tokens within the room that those before it left, and they a tree within the limits
abbrev pub HaveTrees : List (List ℕ) → Type 0
HaveTrees texts = (files : List FileContents) × AreRead texts files

-- where both are told of the same texts they are the same, unless the texts have trees
abbrev pub AreOneCause : CompileError → CompileError → Type 0
AreOneCause d e =
    (texts : List (List ℕ)) (memory : ℕ) → IsRefusedFor texts memory d → IsRefusedFor texts memory e → d ≢ errors.Memory → e ≢ errors.Memory
    → (d ≡ e) ⊎ HaveTrees texts
