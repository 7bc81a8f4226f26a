-- Whether a name is one of a type, by what it is bound to.
use Rattle.std.proofs.Common.{◌≡◌, ℕ, Bool, true, false, if◌then◌else◌, nat_eq, List, [], ◌∷◌, Option, Some, refl}
use Rattle.std.specs.Option.{unwrap_or}
use Rattle.dae_tree.specs.Names.{Names, is_type}
use Rattle.dae_parse_parts.specs.Scopes.{bound_to}

by_test : (b is : Bool) (o : Option Bool) (x : Bool) → unwrap_or o false ≡ x → unwrap_or (if b then Some is else o) false ≡ (if b then is else x)
by_test true is o x h = refl
by_test false is o x h = h

pub type_found : (names : Names) (n : ℕ) → unwrap_or (bound_to names n) false ≡ is_type names n
type_found [] n = refl
type_found (b ∷ names) n = by_test (nat_eq b.0 n) b.1 (bound_to names n) (is_type names n) (type_found names n)
