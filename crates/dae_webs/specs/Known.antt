-- Code each of whose variables has a web where it is read, or where it is defined and no web starts.
use Rattle.std.specs.Prelude.{◌≡◌, ℕ, Bool, true, Option, Some, None}
use Rattle.dae_ir.specs.Code.{Done, Do, If, Loop}
use Rattle.dae_ir.specs.Form.{Form}
use Rattle.dae_ir.specs.Classes.{has_test}
use Rattle.dae_ir.specs.SetFirst.{ItemReads}
use Rattle.dae_webs.specs.Current.{Current, has_web}
use Rattle.dae_webs.specs.Renamed.{Starts, variable_set, number_after, number_behind, webs_after, without_both, at_second, at_rest}

-- whether a variable of the renamed code is for webs of a variable of the code
abbrev pub Owns : Type 0
Owns = ℕ → ℕ → Bool

-- of a definition
abbrev pub IsDefined : Owns → Option ℕ → Current → ℕ → Type 0
IsDefined owns None m v = has_web m v ≡ true
IsDefined owns (Some u) m v = owns u v ≡ true

abbrev pub IsDefinedNext : Owns → Option ℕ → Current → Option ℕ → Type 0
IsDefinedNext owns o m None = Unit {0}
IsDefinedNext owns o m (Some v) = IsDefined owns o m v

abbrev pub IsKnown : Owns → Starts → ℕ → Current → Form → Type 0
IsKnown owns b n m Done = Unit {0}
IsKnown owns b n m (Do place item k) =
    ItemReads (has_web m) item × IsDefinedNext owns (b n) m (variable_set item)
    × IsKnown owns b (number_after n item) (webs_after (b n) m item) k
IsKnown owns b n m (If place t p q k) =
    (has_test (has_web m) t ≡ true) × IsKnown owns b n (without_both b n p q m) p
    × IsKnown owns b (number_behind n p) (at_second b n p q (without_both b n p q m)) q
    × IsKnown owns b (number_behind (number_behind n p) q)
    (at_rest b n p q (without_both b n p q m)) k
IsKnown owns b n m (Loop place p q k) =
    IsKnown owns b n (without_both b n p q m) p
    × IsKnown owns b (number_behind n p) (at_second b n p q (without_both b n p q m)) q
    × IsKnown owns b (number_behind (number_behind n p) q)
    (at_rest b n p q (without_both b n p q m)) k
