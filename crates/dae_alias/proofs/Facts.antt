-- What is true of a form's variables and of memory while a stretch is walked: each variable holds what its symbolic address
-- says, by what the bases were; and what is held is what a load would find.
use Rattle.std.proofs.Common.{◌≡◌, ◌⊎◌, ℕ, suc, ◌+◌, ◌-◌, ◌%◌, ◌^◌, ◌<◌, ◌≤◌, Bool, true, false, ◌&&◌, nat_eq, if◌then◌else◌, List, [], ◌∷◌, length, Option, Some, None, inl, inr, refl, ap, sym, ◌∙◌, subst, arith}
use Rattle.std.proofs.lemmas.Bool.{eqb-true, and_parts}
use Rattle.dae_base.specs.Words.{plus, size, width_of, loaded, stored}
use Rattle.dae_base.specs.declared.Width.{Width}
use Rattle.dae_base.specs.declared.LoadKind.{LoadKind}
use Rattle.dae_meaning.specs.Variables.{Env, put}
use Rattle.dae_meaning.specs.Operations.{combined}
use Rattle.dae_meaning.specs.declared.Operator.TheVariants.{Add, Subtract, Multiply, DivideSigned, DivideUnsigned, RemainderSigned, RemainderUnsigned, And, Or, Xor, ShiftLeft, ShiftRightSigned, ShiftRightUnsigned}
use Rattle.dae_ir.specs.Form.{value, computed}
use Rattle.dae_ir.specs.Scope.{IsIn, ValueIn}
use Rattle.dae_ir.specs.declared.form.Operand.{Operand}
use Rattle.dae_ir.specs.declared.form.Operand.TheVariants as operand
use Rattle.dae_ir.specs.declared.form.Value.{Value}
use Rattle.dae_ir.specs.declared.form.Value.TheVariants as val
use Rattle.dae_alias.specs.declared.addresses.Base.{Base}
use Rattle.dae_alias.specs.declared.addresses.Base.TheVariants.{Number, Frame, Variable}
use Rattle.dae_alias.specs.declared.addresses.SymAddr.{SymAddr}
use Rattle.dae_alias.specs.Addresses.{same_base, same_place, same_width, same_kind, ranges_meet, are_apart}
use Rattle.dae_alias.specs.Stretches.{KnownInStretch, nothing, symbol, shifted, followed, renewed, given, set}
use Rattle.dae_alias.specs.declared.held.Held.{Held}
use Rattle.dae_alias.specs.Reuse.{Holders, held_in, still_held, number_of}
use Rattle.dae_alias.proofs.Words.{Agree, agree_plus, agree_zero, loaded_beside, apart_accesses, same_word, size_some}

-- what each variable held once it was set so often
abbrev pub Past : Type 0
Past = ℕ → ℕ → ℕ

abbrev pub from : Past → ℕ → Base → ℕ
from past frame Number = 0
from past frame Frame = frame
from past frame (Variable v k) = past v k

abbrev pub meant : Past → ℕ → SymAddr → ℕ
meant past frame x = from past frame x.base + x.offset

abbrev pub IsOldBase : (ℕ → ℕ) → Base → Type 0
IsOldBase times Number = Unit {0}
IsOldBase times Frame = Unit {0}
IsOldBase times (Variable v k) = k ≤ times v

pub record IsOld (times : ℕ → ℕ) (x : SymAddr) : Type 0 where
  pub base : IsOldBase times x.base
  pub offset : x.offset < 2 ^ 32

-- x is the symbolic address of the number a
pub record Means (past : Past) (frame : ℕ) (times : ℕ → ℕ) (a : ℕ) (x : SymAddr) : Type 0 where
  pub agree : Agree a (meant past frame x)
  pub old : IsOld times x

-- ---- what is held, where l loads were met

pub record IsHeld (h : Holders) (past : Past) (frame : ℕ) (times : ℕ → ℕ) (l : ℕ) (f : Env) (m : List ℕ) (x : Held) : Type 0 where
  pub old : IsOld times x.at
  pub old_value : IsOld times x.value
  pub met : x.number < l
  pub finds : (a : ℕ) → Agree a (meant past frame x.at) → a + size (width_of x.kind) ≤ length m → Agree (loaded x.kind a m) (meant past frame x.value)
  pub holds : (u : ℕ) → h x.number ≡ Some u → (a : ℕ) → Agree a (meant past frame x.at) → a + size (width_of x.kind) ≤ length m → f u ≡ loaded x.kind a m

abbrev pub AllHeld : (h : Holders) (past : Past) (frame : ℕ) (times : ℕ → ℕ) (l : ℕ) (f : Env) (m : List ℕ) → List Held → Type 0
AllHeld h past frame times l f m [] = Unit {0}
AllHeld h past frame times l f m (x ∷ xs) = IsHeld h past frame times l f m x × AllHeld h past frame times l f m xs

-- of the variables below n
pub record Facts (h : Holders) (n : ℕ) (s : KnownInStretch) (held : List Held) (l : ℕ) (frame : ℕ) (f : Env) (m : List ℕ) : Type 0 where
  pub past : Past
  pub values : (v : ℕ) → v < n → Means past frame s.times (f v) (s.value v)
  pub kept : AllHeld h past frame s.times l f m held

-- at a stretch's start
pub begins : (h : Holders) (n l frame : ℕ) (f : Env) (m : List ℕ) → Facts h n nothing [] l frame f m
begins h n l frame f m = record {
  past = λ v k. f v;
  values = λ v small. record { agree = agree_zero (f v); old = record { base = omega arith; offset = omega arith } };
  kept = tt;
}

-- ---- a variable is set

abbrev pub renew : Past → ℕ → ℕ → ℕ → Past
renew past v k y w j = if nat_eq w v && nat_eq j k then y else past w j

abbrev pub timed : (ℕ → ℕ) → ℕ → ℕ → ℕ
timed times v u = if nat_eq u v then times u + 1 else times u

past_same : (w v j k x y : ℕ) → (w ≡ v → j < k) → (if nat_eq w v && nat_eq j k then y else x) ≡ x
past_same w v j k x y h = by (nat_eq w v) refl (nat_eq j k) refl where
  by : (b : Bool) → nat_eq w v ≡ b → (c : Bool) → nat_eq j k ≡ c → (if b && c then y else x) ≡ x
  by true p true q = absurd (let l = h (eqb-true w v p) in let e = eqb-true j k q in omega (arith, l, e))
  by true p false q = refl
  by false p c q = refl

from_same : (past : Past) (frame : ℕ) (times : ℕ → ℕ) (v y : ℕ) (b : Base) → IsOldBase times b → from (renew past v (times v + 1) y) frame b ≡ from past frame b
from_same past frame times v y Number h = refl
from_same past frame times v y Frame h = refl
from_same past frame times v y (Variable w j) h =
    past_same w v j (times v + 1) (past w j) y (λ e. (let k : j ≤ times v = subst (λ (u : ℕ). j ≤ times u) e h in omega (arith, k)))

pub timed_later : (times : ℕ → ℕ) (v u : ℕ) → times u ≤ timed times v u
timed_later times v u = by (nat_eq u v) where
  by : (b : Bool) → times u ≤ (if b then times u + 1 else times u)
  by true = omega arith
  by false = omega arith

base_older : (times : ℕ → ℕ) (v : ℕ) (b : Base) → IsOldBase times b → IsOldBase (timed times v) b
base_older times v Number h = tt
base_older times v Frame h = tt
base_older times v (Variable w j) h = let k = timed_later times v w in omega (arith, h, k)

pub older : (times : ℕ → ℕ) (v : ℕ) (x : SymAddr) → IsOld times x → IsOld (timed times v) x
older times v x o = record { base = base_older times v x.base o.base; offset = o.offset }

pub meant_same : (past : Past) (frame : ℕ) (times : ℕ → ℕ) (v y : ℕ) (x : SymAddr) → IsOld times x → meant (renew past v (times v + 1) y) frame x ≡ meant past frame x
meant_same past frame times v y x o = ap (λ (a : ℕ). a + x.offset) (from_same past frame times v y x.base o.base)

pub means_later : (past : Past) (frame : ℕ) (times : ℕ → ℕ) (v y a : ℕ) (x : SymAddr) → Means past frame times a x → Means (renew past v (times v + 1) y) frame (timed times v) a x
means_later past frame times v y a x m =
    record { agree = rw (meant_same past frame times v y x m.old) m.agree; old = older times v x m.old }

pub eq_refl : (v : ℕ) → nat_eq v v ≡ true
eq_refl v = grind arith

renewed_past : (past : Past) (v k y : ℕ) → renew past v k y v k ≡ y
renewed_past past v k y = rw (eq_refl v, eq_refl k) refl

-- the value that is given means what v gets
abbrev pub IsGiven : Past → ℕ → (ℕ → ℕ) → ℕ → Option SymAddr → Type 0
IsGiven past frame times y None = Unit {0}
IsGiven past frame times y (Some x) = Means past frame times y x

given_means : (past : Past) (frame : ℕ) (s : KnownInStretch) (v y : ℕ) (x : Option SymAddr) → IsGiven past frame s.times y x
    → Means (renew past v (s.times v + 1) y) frame (timed s.times v) y (given s v x)
given_means past frame s v y None g =
    record {
      agree = rw (renewed_past past v (s.times v + 1) y) (agree_zero y);
      old = record { base = rw (eq_refl v) (omega arith); offset = omega arith };
    }
given_means past frame s v y (Some x) g = means_later past frame s.times v y y x g

-- the holders that are held aren't set
abbrev pub IsSpared : Holders → ℕ → ℕ → Type 0
IsSpared h l v = (i u : ℕ) → i < l → h i ≡ Some u → nat_eq u v ≡ false

pub held_later : (h : Holders) (past : Past) (frame : ℕ) (times : ℕ → ℕ) (l : ℕ) (f : Env) (m : List ℕ) (held : List Held) (v y : ℕ) → IsSpared h l v
    → AllHeld h past frame times l f m held → AllHeld h (renew past v (times v + 1) y) frame (timed times v) l (put true v y f) m held
held_later h past frame times l f m [] v y spared a = tt
held_later h past frame times l f m (x ∷ xs) v y spared a = (
  let i = a.0 in
      record {
        old = older times v x.at i.old;
        old_value = older times v x.value i.old_value;
        met = i.met;
        finds = λ b g fits.
            rw (meant_same past frame times v y x.value i.old_value) (i.finds b (subst (λ (c : ℕ). Agree b c) (meant_same past frame times v y x.at i.old) g) fits);
        holds = λ u mine b g fits.
            rw (spared x.number u i.met mine) (i.holds u mine b (subst (λ (c : ℕ). Agree b c) (meant_same past frame times v y x.at i.old) g) fits);
      },
  held_later h past frame times l f m xs v y spared a.1,
)

pub sets : (h : Holders) (n : ℕ) (s : KnownInStretch) (held : List Held) (l frame : ℕ) (f : Env) (m : List ℕ) (v y : ℕ) (x : Option SymAddr) → IsSpared h l v
    → (facts : Facts h n s held l frame f m) → IsGiven facts.past frame s.times y x → Facts h n (set s v x) held l frame (put true v y f) m
sets h n s held l frame f m v y x spared facts g = record {
  past = renew facts.past v (s.times v + 1) y;
  values = λ u small. at u small (nat_eq u v);
  kept = held_later h facts.past frame s.times l f m held v y spared facts.kept;
} where
  at : (u : ℕ) → u < n → (b : Bool) → Means (renew facts.past v (s.times v + 1) y) frame (timed s.times v) (if b then y else f u) (if b then given s v x else s.value u)
  at u small true = given_means facts.past frame s v y x g
  at u small false = means_later facts.past frame s.times v y (f u) (s.value u) (facts.values u small)

-- a further variable is set, of which nothing is known
pub hidden_held : (h : Holders) (past : Past) (frame : ℕ) (times : ℕ → ℕ) (l : ℕ) (f : Env) (m : List ℕ) (held : List Held) (u y : ℕ) → IsSpared h l u
    → AllHeld h past frame times l f m held → AllHeld h past frame times l (put true u y f) m held
hidden_held h past frame times l f m [] u y spared a = tt
hidden_held h past frame times l f m (x ∷ xs) u y spared a = (
  let i = a.0 in
      record {
        old = i.old;
        old_value = i.old_value;
        met = i.met;
        finds = i.finds;
        holds = λ w mine b g fits. rw (spared x.number w i.met mine) (i.holds w mine b g fits);
      },
  hidden_held h past frame times l f m xs u y spared a.1,
)

-- the number of a variable below n isn't that of one from n on
pub below_other : (w u n : ℕ) → w < n → n ≤ u → nat_eq w u ≡ false
below_other w u n small large = by (nat_eq w u) refl where
  by : (b : Bool) → nat_eq w u ≡ b → b ≡ false
  by true e = absurd (let k = eqb-true w u e in omega (arith, k, small, large))
  by false e = refl

abbrev pub hides : (h : Holders) (n : ℕ) (s : KnownInStretch) (held : List Held) (l frame : ℕ) (f : Env) (m : List ℕ) (u y : ℕ) → n ≤ u → IsSpared h l u
    → (facts : Facts h n s held l frame f m) → Facts h n s held l frame (put true u y f) m
hides h n s held l frame f m u y far spared facts = record {
  past = facts.past;
  values = λ v small. rw (below_other v u n small far) (facts.values v small);
  kept = hidden_held h facts.past frame s.times l f m held u y spared facts.kept;
}

-- ---- operands and values

pub operand_means : (n : ℕ) (past : Past) (frame : ℕ) (s : KnownInStretch) (f : Env) → ((v : ℕ) → v < n → Means past frame s.times (f v) (s.value v)) → (x : Operand) → IsIn n x → Means past frame s.times (value x f) (symbol s x)
operand_means n past frame s f values (operand.Variable v) i = values v i
operand_means n past frame s f values (operand.Number k) i = record { agree = ap (λ (a : ℕ). a % 2 ^ 32) (omega arith); old = record { base = tt; offset = i } }

shifted_means : (past : Past) (frame : ℕ) (times : ℕ → ℕ) (a k : ℕ) (x : SymAddr) → Means past frame times a x → Means past frame times (plus a k) (shifted x k)
shifted_means past frame times a k x m =
    let o = m.old in
    record { agree = agree_plus a (from past frame x.base) x.offset k m.agree; old = record { base = o.base; offset = omega arith } }

plus_turned : (a k : ℕ) → plus a k ≡ plus k a
plus_turned a k = omega arith

pub follows : (n : ℕ) (past : Past) (frame : ℕ) (s : KnownInStretch) (f : Env) → ((v : ℕ) → v < n → Means past frame s.times (f v) (s.value v)) → (x : Value) → ValueIn n x
    → IsGiven past frame s.times (computed x frame f) (followed s x)
unfolding combined
follows n past frame s f values (val.Same x) i = operand_means n past frame s f values x i
follows n past frame s f values (val.Extended kind x) i = tt
follows n past frame s f values (val.Binary Add x (operand.Number k)) i = shifted_means past frame s.times (value x f) k (symbol s x) (operand_means n past frame s f values x i.0)
follows n past frame s f values (val.Binary Add (operand.Number k) (operand.Variable v)) i =
    subst (λ (a : ℕ). Means past frame s.times a (shifted (s.value v) k)) (plus_turned (f v) k) (shifted_means past frame s.times (f v) k (s.value v) (values v i.1))
follows n past frame s f values (val.Binary Add (operand.Variable w) (operand.Variable v)) i = tt
follows n past frame s f values (val.Binary Subtract x (operand.Number k)) i = shifted_means past frame s.times (value x f) (2 ^ 32 - k) (symbol s x) (operand_means n past frame s f values x i.0)
follows n past frame s f values (val.Binary Subtract x (operand.Variable v)) i = tt
follows n past frame s f values (val.Binary Multiply x y) i = tt
follows n past frame s f values (val.Binary DivideSigned x y) i = tt
follows n past frame s f values (val.Binary DivideUnsigned x y) i = tt
follows n past frame s f values (val.Binary RemainderSigned x y) i = tt
follows n past frame s f values (val.Binary RemainderUnsigned x y) i = tt
follows n past frame s f values (val.Binary And x y) i = tt
follows n past frame s f values (val.Binary Or x y) i = tt
follows n past frame s f values (val.Binary Xor x y) i = tt
follows n past frame s f values (val.Binary ShiftLeft x y) i = tt
follows n past frame s f values (val.Binary ShiftRightSigned x y) i = tt
follows n past frame s f values (val.Binary ShiftRightUnsigned x y) i = tt
follows n past frame s f values (val.Holds t) i = tt
follows n past frame s f values (val.FrameAddress offset) i = record { agree = omega arith; old = record { base = tt; offset = i } }

-- ---- what is known of two symbolic addresses

pub same_base_is : (b c : Base) → same_base b c ≡ true → b ≡ c
same_base_is Number Number h = refl
same_base_is Number Frame h = cc
same_base_is Number (Variable w k) h = cc
same_base_is Frame Number h = cc
same_base_is Frame Frame h = refl
same_base_is Frame (Variable w k) h = cc
same_base_is (Variable v j) Number h = cc
same_base_is (Variable v j) Frame h = cc
same_base_is (Variable v j) (Variable w k) h =
    let p = and_parts (nat_eq v w) (nat_eq j k) h in rw (eqb-true v w p.0, eqb-true j k p.1) refl

-- ---- a store

apart_parts : (b c d : Bool) → (b && (if c then false else (if d then false else true))) ≡ true → (b ≡ true) × (d ≡ false)
apart_parts true true d h = cc
apart_parts true false true h = cc
apart_parts true false false h = (refl, refl)
apart_parts false c d h = cc

-- where the two are apart, what a load finds stays
store_apart : (past : Past) (frame : ℕ) (times : ℕ → ℕ) (kind : LoadKind) (x : SymAddr) (width : Width) (y : SymAddr) → are_apart x (width_of kind) y width ≡ true
    → IsOld times x → IsOld times y → (m : List ℕ) → length m ≤ 2 ^ 32 → (a b z : ℕ) → Agree a (meant past frame x) → Agree b (meant past frame y)
    → a + size (width_of kind) ≤ length m → b + size width ≤ length m → loaded kind a (stored width b z m) ≡ loaded kind a m
store_apart past frame times kind x width y h ox oy m fits a b z ga gb ha hb =
    let p = apart_parts (same_base x.base y.base) (nat_eq x.offset y.offset && same_width (width_of kind) width) (ranges_meet x.offset (width_of kind) y.offset width) h in
    loaded_beside kind a width b z m
    (apart_accesses a b (from past frame x.base) x.offset y.offset (width_of kind) width ga
    (subst (λ (c : Base). Agree b (from past frame c + y.offset)) (sym (same_base_is x.base y.base p.0)) gb)
    ox.offset oy.offset (omega (arith, ha, fits)) (omega (arith, hb, fits)) p.1)

module _ (h : Holders) (past : Past) (frame : ℕ) (times : ℕ → ℕ) (l : ℕ) (f : Env) (m : List ℕ) (fits : length m ≤ 2 ^ 32) (width : Width) (y : SymAddr) (oy : IsOld times y) (b z : ℕ)
    (same_length : length (stored width b z m) ≡ length m) (gb : Agree b (meant past frame y)) (hb : b + size width ≤ length m) where
  pub held_stored : (held : List Held) → AllHeld h past frame times l f m held → AllHeld h past frame times l f (stored width b z m) (still_held held y width)
  held_stored [] a = tt
  held_stored (x ∷ xs) a = by (held_stored xs a.1) (are_apart x.at (width_of x.kind) y width) refl where
    i : IsHeld h past frame times l f m x
    i = a.0

    by : AllHeld h past frame times l f (stored width b z m) (still_held xs y width) → (c : Bool) → are_apart x.at (width_of x.kind) y width ≡ c → AllHeld h past frame times l f (stored width b z m) (if c then x ∷ still_held xs y width else still_held xs y width)
    by more true e = (
      record {
        old = i.old;
        old_value = i.old_value;
        met = i.met;
        finds = λ c g room.
            (let room' : c + size (width_of x.kind) ≤ length m = subst (λ (n : ℕ). c + size (width_of x.kind) ≤ n) same_length room in
            subst (λ (w : ℕ). Agree w (meant past frame x.value)) (sym (store_apart past frame times x.kind x.at width y e i.old oy m fits c b z g gb room' hb)) (i.finds c g room'));
        holds = λ u mine c g room.
            (let room' : c + size (width_of x.kind) ≤ length m = subst (λ (n : ℕ). c + size (width_of x.kind) ≤ n) same_length room in
            i.holds u mine c g room' ∙ sym (store_apart past frame times x.kind x.at width y e i.old oy m fits c b z g gb room' hb));
      },
      more,
    )
    by more false e = more

-- ---- what is held is found

pub if_some : {X : Type 0} (b : Bool) (x : X) (y : Option X) (z : X) → (if b then Some x else y) ≡ Some z → ((b ≡ true) × (x ≡ z)) ⊎ ((b ≡ false) × (y ≡ Some z))
if_some true x y z h = inl (refl, cc)
if_some false x y z h = inr (refl, h)

pub own_number : (given : Option Held) (l : ℕ) → given ≡ None → number_of given l ≡ l
own_number None l e = refl
own_number (Some g) l e = cc

pub some_is : (x y : ℕ) → Some x ≡ Some y → x ≡ y
some_is x y h = cc

pub same_kind_is : (j k : LoadKind) → same_kind j k ≡ true → j ≡ k
same_kind_is j k h = grind (arith, h)

-- what is held for a load says what that load finds
pub record IsFound (h : Holders) (past : Past) (frame : ℕ) (times : ℕ → ℕ) (f : Env) (m : List ℕ) (kind : LoadKind) (at : SymAddr) (x : Held) : Type 0 where
  pub old_value : IsOld times x.value
  pub finds : (a : ℕ) → Agree a (meant past frame at) → a + size (width_of kind) ≤ length m → Agree (loaded kind a m) (meant past frame x.value)
  pub holds : (u : ℕ) → h x.number ≡ Some u → (a : ℕ) → Agree a (meant past frame at) → a + size (width_of kind) ≤ length m → f u ≡ loaded kind a m

pub same_place_is : (x y : SymAddr) → same_place x y ≡ true → x ≡ y
same_place_is x y h =
    let p = and_parts (same_base x.base y.base) (nat_eq x.offset y.offset) h in
    let base = same_base_is x.base y.base p.0 in
    let offset = eqb-true x.offset y.offset p.1 in
    ap (λ (b : Base). record { base = b; offset = x.offset }) base ∙ ap (λ (o : ℕ). record { base = y.base; offset = o }) offset

pub found : (h : Holders) (past : Past) (frame : ℕ) (times : ℕ → ℕ) (l : ℕ) (f : Env) (m : List ℕ) (held : List Held) (kind : LoadKind) (at : SymAddr) (e : Held) → held_in held kind at ≡ Some e
    → AllHeld h past frame times l f m held → IsFound h past frame times f m kind at e
found h past frame times l f m [] kind at e is all = cc
found h past frame times l f m (x ∷ xs) kind at e is all = by (λ is. found h past frame times l f m xs kind at e is all.1) (if_some (same_kind x.kind kind && same_place x.at at) x (held_in xs kind at) e is) where
  here : IsFound h past frame times f m x.kind x.at x
  here = let i = all.0 in record { old_value = i.old_value; finds = i.finds; holds = i.holds }

  by : (held_in xs kind at ≡ Some e → IsFound h past frame times f m kind at e)
      → (((same_kind x.kind kind && same_place x.at at) ≡ true) × (x ≡ e)) ⊎ (((same_kind x.kind kind && same_place x.at at) ≡ false) × (held_in xs kind at ≡ Some e)) → IsFound h past frame times f m kind at e
  by more (inl s) =
      let p = and_parts (same_kind x.kind kind) (same_place x.at at) s.0 in
      let k : x.kind ≡ kind = same_kind_is x.kind kind p.0 in
      let a : x.at ≡ at = same_place_is x.at at p.1 in
      subst (λ (z : Held). IsFound h past frame times f m kind at z) s.1
      (subst (λ (j : LoadKind). IsFound h past frame times f m j at x) k (subst (λ (b : SymAddr). IsFound h past frame times f m x.kind b x) a here))
  by more (inr s) = more s.1

-- ---- more loads are met

pub held_more : (h : Holders) (past : Past) (frame : ℕ) (times : ℕ → ℕ) (l : ℕ) (f : Env) (m : List ℕ) (held : List Held) → AllHeld h past frame times l f m held → AllHeld h past frame times (suc l) f m held
held_more h past frame times l f m [] a = tt
held_more h past frame times l f m (x ∷ xs) a =
    (let i = a.0 in record { old = i.old; old_value = i.old_value; met = omega (arith, i.met); finds = i.finds; holds = i.holds }, held_more h past frame times l f m xs a.1)

pub facts_more : (h : Holders) (n : ℕ) (s : KnownInStretch) (held : List Held) (l frame : ℕ) (f : Env) (m : List ℕ) → Facts h n s held l frame f m → Facts h n s held (suc l) frame f m
facts_more h n s held l frame f m facts = record { past = facts.past; values = facts.values; kept = held_more h facts.past frame s.times l f m held facts.kept }

-- ---- a load goes into a variable of its own, and from there to where it went

module _ (h : Holders) (apart : (i j u : ℕ) → h i ≡ Some u → h j ≡ Some u → i ≡ j) (n : ℕ) (own : (i u : ℕ) → h i ≡ Some u → n ≤ u) where
  pub spares_old : (l v : ℕ) → v < n → IsSpared h l v
  spares_old l v small i u met is = let k = own i u is in by (nat_eq u v) refl where
    by : (b : Bool) → nat_eq u v ≡ b → b ≡ false
    by true e = absurd (let k = own i u is in let q = eqb-true u v e in omega (arith, k, small, q))
    by false e = refl

  pub spares_new : (l v : ℕ) → h l ≡ Some v → IsSpared h l v
  spares_new l v mine i u met is = by (nat_eq u v) refl where
    by : (b : Bool) → nat_eq u v ≡ b → b ≡ false
    by true e = absurd (let q = apart i l v (subst (λ (c : ℕ). h i ≡ Some c) (eqb-true u v e) is) mine in omega (arith, q, met))
    by false e = refl

pub put_here : (v y : ℕ) (f : Env) → put true v y f v ≡ y
put_here v y f = rw (eq_refl v) refl

-- a load of number l is met, and goes into v
pub load_met : (h : Holders) (n : ℕ) (s : KnownInStretch) (held : List Held) (l frame : ℕ) (f : Env) (m : List ℕ) (v a : ℕ) (kind : LoadKind) (at : SymAddr) → length m ≤ 2 ^ 32 → IsSpared h l v
    → ((u : ℕ) → h l ≡ Some u → (nat_eq u v ≡ false) × (f u ≡ loaded kind a m)) → a + size (width_of kind) ≤ length m
    → (facts : Facts h n s held l frame f m) → Means facts.past frame s.times a at
    → Facts h n (set s v None) (record { kind = kind; at = at; value = renewed s v; number = l } ∷ held) (suc l) frame (put true v (loaded kind a m) f) m
unfolding sets
load_met h n s held l frame f m v a kind at fits spared mine room facts means =
    let y : ℕ = loaded kind a m in
    let past' : Past = renew facts.past v (s.times v + 1) y in
    let second = sets h n s held l frame f m v y None spared facts tt in
    let later : Means past' frame (timed s.times v) a at = means_later facts.past frame s.times v y a at means in
    let value : Means past' frame (timed s.times v) y (renewed s v) = given_means facts.past frame s v y None tt in
    let some = size_some (width_of kind) in
    let same : (b : ℕ) → Agree b (meant past' frame at) → b + size (width_of kind) ≤ length m → a ≡ b =
    λ b g room'. same_word a b (later.agree ∙ sym g) (omega (arith, room, fits, some)) (omega (arith, room', fits, some)) in
    record {
      past = past';
      values = second.values;
      kept = (
        record {
          old = later.old;
          old_value = value.old;
          met = omega arith;
          finds = λ b g room'. subst (λ (c : ℕ). Agree (loaded kind c m) (meant past' frame (renewed s v))) (same b g room') value.agree;
          holds = λ u is b g room'. (let p = mine u is in rw p.0 (p.1 ∙ ap (λ (c : ℕ). loaded kind c m) (same b g room')));
        },
        held_more h past' frame (timed s.times v) l _ m held second.kept,
      );
    }
