-- Labels of a switch as a set that keeps their order.
use Rattle.std.proofs.Common.{◌≡◌, ℕ, Bool, false, ◌||◌, nat_eq, List, [], ◌∷◌, ◌++◌, if◌then◌else◌, Option, Some, None, refl, ap, ◌∙◌}
use Rattle.std.specs.List.{list_any}
use Rattle.std.specs.Option.{option_eq}
use Rattle.indexmap.specs.IndexSet.{insert_key}
use Rattle.dae_program.specs.declared.statements.Arm.{Arm}
use Rattle.dae_types_file_plans.specs.Statements.{Arming, is_seen, same_label}
use Rattle.dae_types_bodies.specs.Arms.{armed}

equal_is_same : (l x : Option ℕ) → option_eq nat_eq l x ≡ same_label l x
equal_is_same None None = refl
equal_is_same None (Some n) = refl
equal_is_same (Some m) None = refl
equal_is_same (Some m) (Some n) = refl

pub any_is_seen : (l : Option ℕ) (xs : List (Option ℕ)) → list_any (option_eq nat_eq l) xs ≡ is_seen l xs
any_is_seen l [] = refl
any_is_seen l (x ∷ xs) =
    ap (λ (b : Bool). b || list_any (option_eq nat_eq l) xs) (equal_is_same l x) ∙ ap (λ (b : Bool). same_label l x || b) (any_is_seen l xs)

pub seen_last : (l : Option ℕ) (old new : List (Option ℕ)) → new ≡ insert_key (option_eq nat_eq) old l → is_seen l old ≡ false → new ≡ old ++ l ∷ []
seen_last l old new is absent =
    is ∙ ap (λ (b : Bool). if b then old else old ++ l ∷ []) (any_is_seen l old ∙ absent)

abbrev arming : List (Option ℕ) → List Arm → Arming
arming seen arms = record { seen = seen; arms = armed arms }

pub nothing_armed : (seen : List (Option ℕ)) (arms : List Arm) → seen ≡ [] → arms ≡ [] → arming seen arms ≡ arming [] []
nothing_armed seen arms none empty = ap (λ (s : List (Option ℕ)). arming s arms) none ∙ ap (arming []) empty
