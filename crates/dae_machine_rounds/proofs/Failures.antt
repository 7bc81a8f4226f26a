-- Where the checks of a group can fail in one way alone, A's part of the group fails so.
use Rattle.std.proofs.Common.{◌≡◌, ℕ, ◌+◌, ◌%◌, Bool, true, false, not, ◌&&◌, ◌||◌, nat_eq, List, [], ◌∷◌, length, Option, Some, None, if◌then◌else◌, refl, ap, sym, arith}
use Rattle.std.specs.Prelude.{nat_lt}
use Rattle.std.proofs.lemmas.Bool.{and_parts}
use Rattle.std.proofs.lemmas.Bool.Decides.{nat_tests}
use Rattle.dae_base.specs.Words.{plus, width_of, loaded}
use Rattle.dae_base.specs.declared.Width.TheVariants.{B1, B2, B4}
use Rattle.dae_base.proofs.Laws.{no_true}
use Rattle.dae_meaning.specs.Worlds.{World, ticked, fetched}
use Rattle.dae_meaning.specs.Operations.{misplaced}
use Rattle.dae_meaning.specs.Variables.{Env, put}
use Rattle.dae_ir.specs.Form.{Program, value, computed, fault}
use Rattle.dae_ir.specs.Classes.{Classes}
use Rattle.dae_ir.specs.Canonical.{is_issued, Access, Passed, Failed, Strayed, with_word, with_copy, unless, reached, access}
use Rattle.dae_ir.specs.Streams.{only_fails_by, all_fail_by, only_failure}
use Rattle.dae_ir.specs.Deeds.{failure_code, heard_code}
use Rattle.dae_ir.specs.declared.form.Check.{Check}
use Rattle.dae_ir.specs.declared.form.Check.TheVariants.{Place as Good, InBounds, Zero, Room, Frame, Abort}
use Rattle.dae_ir.specs.declared.stream.Failure.{Failure}
use Rattle.dae_ir.specs.declared.stream.Failure.TheVariants.{OutOfBounds, OutOfRoom}
use Rattle.dae_ir.specs.declared.stream.Part.{Part}
use Rattle.dae_ir.specs.declared.stream.Part.TheVariants.{Sets, Loads, Tests}

-- ---- one check

abbrev word_in : Option ℕ → ℕ
word_in None = 0
word_in (Some n) = n

some_or_none : (b : Bool) (n code : ℕ) → (if b then Some n else None) ≡ Some code → code ≡ n
some_or_none true n code h = sym (ap word_in h)
some_or_none false n code h = absurd (let e : None ≡ Some code = h in cc)

byte_code : (address size code : ℕ) → misplaced B1 address size ≡ Some code → code ≡ 2
unfolding misplaced
byte_code address size code h =
    let whole : nat_eq (address % 1) 0 ≡ true = grind (arith, nat_tests) in
    let h' : (if not (nat_eq (address % 1) 0) then Some 3 else (if nat_lt address 16 || nat_lt size (address + 1) then Some 2 else None)) ≡ Some code = h in
    some_or_none (nat_lt address 16 || nat_lt size (address + 1)) 2 code (rw whole at h')

fault_by : (failure : Failure) (p : Program) (check : Check) (w : World) (env : Env) (code : ℕ) → only_fails_by failure check ≡ true → fault p check w env ≡ Some code → code ≡ failure_code failure
fault_by OutOfBounds p (Good B1 x) w env code is h = byte_code (value x env) (length w.memory) code h
fault_by OutOfBounds p (Good B2 x) w env code is h = no_true is
fault_by OutOfBounds p (Good B4 x) w env code is h = no_true is
fault_by OutOfBounds p (InBounds x offset) w env code is h = byte_code (plus (value x env) offset) (length w.memory) code h
fault_by OutOfBounds p (Zero x) w env code is h = no_true is
fault_by OutOfBounds p (Room f) w env code is h = no_true is
fault_by OutOfBounds p Frame w env code is h = no_true is
fault_by OutOfBounds p Abort w env code is h = no_true is
fault_by OutOfRoom p (Good B1 x) w env code is h = no_true is
fault_by OutOfRoom p (Good B2 x) w env code is h = no_true is
fault_by OutOfRoom p (Good B4 x) w env code is h = no_true is
fault_by OutOfRoom p (InBounds x offset) w env code is h = no_true is
fault_by OutOfRoom p (Zero x) w env code is h = no_true is
fault_by OutOfRoom p (Room f) w env code is h = some_or_none (nat_lt p.limit (w.depth + 1) || nat_lt (length w.memory) (w.top + p.frame f)) 4 code h
fault_by OutOfRoom p Frame w env code is h = some_or_none (nat_lt (length w.memory) w.top) 4 code h
fault_by OutOfRoom p Abort w env code is h = no_true is

-- ---- a group

-- where it fails, it is with this code
abbrev FailsWith : ℕ → Access → Type 0
FailsWith n (Passed env words copies w) = Unit {0}
FailsWith n (Failed code w) = code ≡ n
FailsWith n (Strayed w) = Unit {0}

code_copy : (n : ℕ) (b : Bool) (x : ℕ) (r : Access) → FailsWith n r → FailsWith n (with_copy b x r)
code_copy n true x (Passed env words copies w) h = tt
code_copy n false x (Passed env words copies w) h = tt
code_copy n true x (Failed code w) h = h
code_copy n false x (Failed code w) h = h
code_copy n true x (Strayed w) h = tt
code_copy n false x (Strayed w) h = tt

code_word : (n : ℕ) (b : Bool) (x : ℕ) (r : Access) → FailsWith n r → FailsWith n (with_word b x r)
code_word n true x (Passed env words copies w) h = tt
code_word n false x (Passed env words copies w) h = tt
code_word n true x (Failed code w) h = h
code_word n false x (Failed code w) h = h
code_word n true x (Strayed w) h = tt
code_word n false x (Strayed w) h = tt

code_unless : (n : ℕ) (o : Option ℕ) (w : World) (r : Access) → ((code : ℕ) → o ≡ Some code → code ≡ n) → FailsWith n r → FailsWith n (unless o w r)
code_unless n None w r f h = h
code_unless n (Some code) w r f h = f code refl

code_reached : (n : ℕ) (o : Option ℕ) (w : World) (r : Access) → FailsWith n r → FailsWith n (reached o w r)
code_reached n None w r h = h
code_reached n (Some code) w r h = tt

all_fail : (failure : Failure) (p : Program) (c : Classes) (g : List Part) (w : World) (env : Env) → all_fail_by failure g ≡ true → FailsWith (failure_code failure) (access p c g w env)
all_fail failure p c [] w env all = tt
all_fail failure p c (Sets place v x ∷ g) w env all =
    code_copy (failure_code failure) (c.s v && c.needs v) (computed x w.frame env) (access p c g (ticked w) (put (c.s v) v (computed x w.frame env) env))
    (all_fail failure p c g (ticked w) (put (c.s v) v (computed x w.frame env) env) all)
all_fail failure p c (Loads place v kind x ∷ g) w env all =
    let n = failure_code failure in
    let y = loaded kind (value x env) w.memory in
    let rest = access p c g (fetched (is_issued c v) w) (put (c.s v) v y env) in
    code_reached n (misplaced (width_of kind) (value x env) (length w.memory)) w
    (with_word (not (c.s v) && c.needs v) y (with_copy (c.s v && c.needs v) y rest))
    (code_word n (not (c.s v) && c.needs v) y (with_copy (c.s v && c.needs v) y rest)
    (code_copy n (c.s v && c.needs v) y rest (all_fail failure p c g (fetched (is_issued c v) w) (put (c.s v) v y env) all)))
all_fail failure p c (Tests place check ∷ g) w env all =
    let both = and_parts (only_fails_by failure check) (all_fail_by failure g) all in
    code_unless (failure_code failure) (fault p check w env) (ticked w) (access p c g (ticked w) env)
    (λ code e. fault_by failure p check w env code both.0 e) (all_fail failure p c g (ticked w) env both.1)

-- ---- what is heard of it

-- where it fails, its code is what E halts with that hears it
abbrev pub FailsAs : Option Failure → Access → Type 0
FailsAs only (Passed env words copies w) = Unit {0}
FailsAs only (Failed code w) = heard_code only code ≡ code
FailsAs only (Strayed w) = Unit {0}

fails_as : (failure : Failure) (r : Access) → FailsWith (failure_code failure) r → FailsAs (Some failure) r
fails_as failure (Passed env words copies w) h = tt
fails_as failure (Failed code w) h = sym h
fails_as failure (Strayed w) h = tt

any_fails : (r : Access) → FailsAs None r
any_fails (Passed env words copies w) = tt
any_fails (Failed code w) = refl
any_fails (Strayed w) = tt

pub group_fails : (p : Program) (c : Classes) (g : List Part) (w : World) (env : Env) → FailsAs (only_failure g) (access p c g w env)
group_fails p c g w env = by (all_fail_by OutOfBounds g) (all_fail_by OutOfRoom g) refl refl where
  by : (a b : Bool) → all_fail_by OutOfBounds g ≡ a → all_fail_by OutOfRoom g ≡ b → FailsAs (if a then Some OutOfBounds else (if b then Some OutOfRoom else None)) (access p c g w env)
  by true b e f = fails_as OutOfBounds (access p c g w env) (all_fail OutOfBounds p c g w env e)
  by false true e f = fails_as OutOfRoom (access p c g w env) (all_fail OutOfRoom p c g w env f)
  by false false e f = any_fails (access p c g w env)
