-- The items of initialised aggregates are constants (C90 6.5.7): numbers, and addresses of objects with static storage.
use Rattle.std.specs.Prelude.{◌≡◌, ℕ, ◌⊎◌, List, [], ◌∷◌}
use Rattle.dae_program.specs.Trees.{Expression, Setting, Statements, Arms, Number, Address, Done, Evaluate, Initialise, Print, If, Loop, Do, Switch, Break, Continue, Return, no_arms, arm_then}

abbrev pub IsConstant : Expression → Type 0
IsConstant e = ((k : ℕ) × (e ≡ Number k)) ⊎ ((object : ℕ) × (offset : ℕ) × (e ≡ Address object offset))

abbrev pub AreConstant : List Setting → Type 0
AreConstant [] = Unit {0}
AreConstant (item ∷ items) = IsConstant item.value × AreConstant items

abbrev mutual
  pub InitialisesConstants : Statements → Type 0
  InitialisesConstants Done = Unit {0}
  InitialisesConstants (Evaluate p e k) = InitialisesConstants k
  InitialisesConstants (Initialise p offset size items k) = AreConstant items × InitialisesConstants k
  InitialisesConstants (Print p xs pieces k) = InitialisesConstants k
  InitialisesConstants (If p e t u k) = InitialisesConstants t × InitialisesConstants u × InitialisesConstants k
  InitialisesConstants (Loop p test body step k) = InitialisesConstants body × InitialisesConstants k
  InitialisesConstants (Do p body test k) = InitialisesConstants body × InitialisesConstants k
  InitialisesConstants (Switch p e arms k) = ArmsInitialiseConstants arms × InitialisesConstants k
  InitialisesConstants (Break p k) = InitialisesConstants k
  InitialisesConstants (Continue p k) = InitialisesConstants k
  InitialisesConstants (Return p e k) = InitialisesConstants k

  pub ArmsInitialiseConstants : Arms → Type 0
  ArmsInitialiseConstants no_arms = Unit {0}
  ArmsInitialiseConstants (arm_then labels t rest) = InitialisesConstants t × ArmsInitialiseConstants rest
