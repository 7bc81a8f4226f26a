-- What variables hold, and sets of variables.
use Rattle.std.specs.Prelude.{ℕ, ◌+◌, Bool, true, ◌&&◌, ◌||◌, nat_eq, nat_lt, nat_le, List, [], ◌∷◌, if◌then◌else◌}

-- a word for each number of a variable
abbrev pub Env : Type 0
Env = ℕ → ℕ

-- v is set to x where the flag says so
abbrev pub put : Bool → ℕ → ℕ → Env → Env
put b v x env u = if (b && nat_eq u v) then x else env u

-- the variables at a function's entry: the parameters from k on, where the flags say so, and else 0
abbrev pub entered : (ℕ → Bool) → ℕ → List ℕ → Env
entered c k [] = λ _. 0
entered c k (x ∷ xs) = put (c k) k x (entered c (k + 1) xs)

-- ---- sets

abbrev pub VariableSet : Type 0
VariableSet = ℕ → Bool

abbrev pub with_set : ℕ → VariableSet → VariableSet
with_set v d u = nat_eq u v || d u

abbrev pub all_set : VariableSet
all_set v = true

-- the parameters, from 1 on
abbrev pub parameters_set : ℕ → VariableSet
parameters_set count v = nat_lt 0 v && nat_le v count
