-- The symbolic addresses of a form whose loads are reused are those of the form, renamed: what a load into v gave is then what
-- the load's own variable holds.
use Rattle.std.proofs.Common.{◌≡◌, ◌⊎◌, ℕ, suc, ◌+◌, ◌-◌, ◌^◌, ◌<◌, ◌≤◌, Bool, true, false, ◌&&◌, nat_eq, if◌then◌else◌, List, [], ◌∷◌, Option, Some, None, inl, inr, refl, ap, sym, ◌∙◌, subst, arith}
use Rattle.std.proofs.lemmas.Bool.{eqb-true}
use Rattle.dae_base.specs.Words.{width_of}
use Rattle.dae_base.specs.declared.Width.{Width}
use Rattle.dae_base.specs.declared.LoadKind.{LoadKind}
use Rattle.dae_meaning.specs.declared.Operator.TheVariants.{Add, Subtract, Multiply, DivideSigned, DivideUnsigned, RemainderSigned, RemainderUnsigned, And, Or, Xor, ShiftLeft, ShiftRightSigned, ShiftRightUnsigned}
use Rattle.dae_ir.specs.Scope.{IsIn, ValueIn}
use Rattle.dae_ir.specs.declared.form.Operand.{Operand}
use Rattle.dae_ir.specs.declared.form.Operand.TheVariants as operand
use Rattle.dae_ir.specs.declared.form.Value.{Value}
use Rattle.dae_ir.specs.declared.form.Value.TheVariants as val
use Rattle.dae_alias.specs.declared.addresses.Base.{Base}
use Rattle.dae_alias.specs.declared.addresses.Base.TheVariants.{Number, Frame, Variable}
use Rattle.dae_alias.specs.declared.addresses.SymAddr.{SymAddr}
use Rattle.dae_alias.specs.Addresses.{same_base, same_place, same_kind, are_apart}
use Rattle.dae_alias.specs.Stretches.{KnownInStretch, nothing, symbol, shifted, followed, renewed, given, set}
use Rattle.dae_alias.specs.declared.held.Held.{Held}
use Rattle.dae_alias.specs.Reuse.{Holders, held_in, still_held, known_behind, held_behind, number_of}
use Rattle.dae_alias.proofs.Facts.{eq_refl, below_other, timed, timed_later, if_some, some_is}

abbrev pub Renaming : Type 0
Renaming = Base → Base

abbrev pub renamed : Renaming → SymAddr → SymAddr
renamed r x = record { base = r x.base; offset = x.offset }

-- ---- bases

pub same_base_refl : (b : Base) → same_base b b ≡ true
same_base_refl Number = refl
same_base_refl Frame = refl
same_base_refl (Variable v k) = rw (eq_refl v, eq_refl k) refl

nat_eq_turned : (a b : ℕ) → nat_eq a b ≡ nat_eq b a
nat_eq_turned a b = grind arith

-- the base that v gets next
abbrev next_base : KnownInStretch → ℕ → Base
next_base K v = Variable v (K.times v + 1)

own_other : (v u n : ℕ) → v < n → n ≤ u → nat_eq u v ≡ false
own_other v u n small far = nat_eq_turned u v ∙ below_other v u n small far

same_base_turned : (b c : Base) → same_base b c ≡ same_base c b
same_base_turned Number Number = refl
same_base_turned Number Frame = refl
same_base_turned Number (Variable w k) = refl
same_base_turned Frame Number = refl
same_base_turned Frame Frame = refl
same_base_turned Frame (Variable w k) = refl
same_base_turned (Variable v j) Number = refl
same_base_turned (Variable v j) Frame = refl
same_base_turned (Variable v j) (Variable w k) = rw (nat_eq_turned v w, nat_eq_turned j k) refl

other_variable : (v j w k : ℕ) → (v ≡ w → j ≡ k → ⊥) → same_base (Variable v j) (Variable w k) ≡ false
other_variable v j w k h = by (nat_eq v w) refl (nat_eq j k) refl where
  by : (b : Bool) → nat_eq v w ≡ b → (c : Bool) → nat_eq j k ≡ c → (b && c) ≡ false
  by true p true q = absurd (h (eqb-true v w p) (eqb-true j k q))
  by true p false q = refl
  by false p c q = refl

-- a base of the form: of a variable below n, as often set as it was
abbrev pub IsOldIn : ℕ → (ℕ → ℕ) → Base → Type 0
IsOldIn n times Number = Unit {0}
IsOldIn n times Frame = Unit {0}
IsOldIn n times (Variable v k) = (v < n) × (k ≤ times v)

-- a base of the form or of a variable for one of the first l loads
abbrev pub IsImage : Holders → ℕ → (ℕ → ℕ) → ℕ → Base → Type 0
IsImage h n times l Number = Unit {0}
IsImage h n times l Frame = Unit {0}
IsImage h n times l (Variable v k) = ((v < n) × (k ≤ times v)) ⊎ ((i : ℕ) × (i < l) × (h i ≡ Some v))

pub still_old : (n : ℕ) (times : ℕ → ℕ) (v : ℕ) (b : Base) → IsOldIn n times b → IsOldIn n (timed times v) b
still_old n times v Number h = tt
still_old n times v Frame h = tt
still_old n times v (Variable w j) h = (h.0, let k = timed_later times v w in omega (arith, h.1, k))

still_image : (h : Holders) (n : ℕ) (times : ℕ → ℕ) (v l m : ℕ) → l ≤ m → (b : Base) → IsImage h n times l b → IsImage h n (timed times v) m b
still_image h n times v l m few Number i = tt
still_image h n times v l m few Frame i = tt
still_image h n times v l m few (Variable w j) (inl i) = inl (i.0, let k = timed_later times v w in omega (arith, i.1, k))
still_image h n times v l m few (Variable w j) (inr i) = inr (i.0, omega (arith, i.1, few), i.2)

-- behind a set of v a base is one from before, or the new one of v
new_or_old : (n : ℕ) (times : ℕ → ℕ) (v : ℕ) (b : Base) → IsOldIn n (timed times v) b → IsOldIn n times b ⊎ (b ≡ Variable v (times v + 1))
new_or_old n times v Number h = inl tt
new_or_old n times v Frame h = inl tt
new_or_old n times v (Variable w j) h = by (nat_eq w v) refl h.1 where
  last : (b : Bool) → nat_eq j (times w + 1) ≡ b → w ≡ v → j ≤ times w + 1 → IsOldIn n times (Variable w j) ⊎ (Variable w j ≡ Variable v (times v + 1))
  last true e p l = inr (ap (λ (k : ℕ). Variable w k) (eqb-true j (times w + 1) e) ∙ ap (λ (u : ℕ). Variable u (times u + 1)) p)
  last false e p l = inl (h.0, grind (arith, e, l))

  by : (b : Bool) → nat_eq w v ≡ b → j ≤ (if b then times w + 1 else times w) → IsOldIn n times (Variable w j) ⊎ (Variable w j ≡ Variable v (times v + 1))
  by true e l = last (nat_eq j (times w + 1)) refl (eqb-true w v e) l
  by false e l = inl (h.0, l)

-- ---- a form's known addresses, and those of the reused form

pub record IsTied (h : Holders) (n : ℕ) (K C : KnownInStretch) (r : Renaming) (l : ℕ) (x : Held) : Type 0 where
  pub at : IsOldIn n K.times (let a = x.at in a.base)
  pub value : IsOldIn n K.times (let a = x.value in a.base)
  pub met : x.number < l
  pub same : (u : ℕ) → h x.number ≡ Some u → C.value u ≡ renamed r x.value

abbrev pub AllTied : Holders → ℕ → KnownInStretch → KnownInStretch → Renaming → ℕ → List Held → Type 0
AllTied h n K C r l [] = Unit {0}
AllTied h n K C r l (x ∷ xs) = IsTied h n K C r l x × AllTied h n K C r l xs

-- l loads were met, and the variables of the loads from m on aren't set yet
pub record Tied (h : Holders) (n : ℕ) (K C : KnownInStretch) (r : Renaming) (l m : ℕ) (held : List Held) : Type 0 where
  pub value : (v : ℕ) → v < n → C.value v ≡ renamed r (K.value v)
  pub times : (v : ℕ) → v < n → C.times v ≡ K.times v
  pub fresh : (i u : ℕ) → h i ≡ Some u → m ≤ i → C.times u ≡ 0
  pub number : r Number ≡ Number
  pub frame : r Frame ≡ Frame
  pub injects : (b c : Base) → IsOldIn n K.times b → IsOldIn n K.times c → same_base (r b) (r c) ≡ same_base b c
  pub image : (b : Base) → IsOldIn n K.times b → IsImage h n K.times l (r b)
  pub old : (v : ℕ) → v < n → IsOldIn n K.times (let a = K.value v in a.base)
  pub kept : AllTied h n K C r l held

pub starts : (h : Holders) (n l : ℕ) → Tied h n nothing nothing (λ b. b) l l []
starts h n l = record {
  value = λ v small. refl;
  times = λ v small. refl;
  fresh = λ i u is late. refl;
  number = refl;
  frame = refl;
  injects = λ b c i j. refl;
  image = own_image;
  old = λ v small. (small, omega arith);
  kept = tt;
} where
  own_image : (b : Base) → IsOldIn n (λ v. 0) b → IsImage h n (λ v. 0) l b
  own_image Number i = tt
  own_image Frame i = tt
  own_image (Variable v k) i = inl i

-- ---- a variable of the form is set

module _ (h : Holders) (n : ℕ) (K C : KnownInStretch) (r : Renaming) (l m : ℕ) (held : List Held) (tied : Tied h n K C r l m held) (own : (i u : ℕ) → h i ≡ Some u → n ≤ u) where
  pub symbol_renamed : (x : Operand) → IsIn n x → symbol C x ≡ renamed r (symbol K x)
  symbol_renamed (operand.Variable v) i = tied.value v i
  symbol_renamed (operand.Number k) i = ap (λ (b : Base). record { base = b; offset = k }) (sym tied.number)

  pub symbol_old : (x : Operand) → IsIn n x → IsOldIn n K.times (let a = symbol K x in a.base)
  symbol_old (operand.Variable v) i = tied.old v i
  symbol_old (operand.Number k) i = tt

  pub same_renamed : (x y : SymAddr) → IsOldIn n K.times x.base → IsOldIn n K.times y.base → same_place (renamed r x) (renamed r y) ≡ same_place x y
  same_renamed x y i j = rw (tied.injects x.base y.base i j) refl

  pub apart_renamed : (x : SymAddr) (wx : Width) (y : SymAddr) (wy : Width) → IsOldIn n K.times x.base → IsOldIn n K.times y.base → are_apart (renamed r x) wx (renamed r y) wy ≡ are_apart x wx y wy
  apart_renamed x wx y wy i j = rw (tied.injects x.base y.base i j) refl

  abbrev renamed_some : Option SymAddr → Option SymAddr
  renamed_some None = None
  renamed_some (Some x) = Some (renamed r x)

  abbrev IsOldSome : Option SymAddr → Type 0
  IsOldSome None = Unit {0}
  IsOldSome (Some x) = IsOldIn n K.times x.base

  pub followed_renamed : (x : Value) → ValueIn n x → followed C x ≡ renamed_some (followed K x)
  followed_renamed (val.Same x) i = ap (λ (a : SymAddr). Some a) (symbol_renamed x i)
  followed_renamed (val.Extended kind x) i = refl
  followed_renamed (val.Binary Add x (operand.Number k)) i = ap (λ (a : SymAddr). Some (shifted a k)) (symbol_renamed x i.0)
  followed_renamed (val.Binary Add (operand.Number k) (operand.Variable v)) i = ap (λ (a : SymAddr). Some (shifted a k)) (tied.value v i.1)
  followed_renamed (val.Binary Add (operand.Variable w) (operand.Variable v)) i = refl
  followed_renamed (val.Binary Subtract x (operand.Number k)) i = ap (λ (a : SymAddr). Some (shifted a (2 ^ 32 - k))) (symbol_renamed x i.0)
  followed_renamed (val.Binary Subtract x (operand.Variable v)) i = refl
  followed_renamed (val.Binary Multiply x y) i = refl
  followed_renamed (val.Binary DivideSigned x y) i = refl
  followed_renamed (val.Binary DivideUnsigned x y) i = refl
  followed_renamed (val.Binary RemainderSigned x y) i = refl
  followed_renamed (val.Binary RemainderUnsigned x y) i = refl
  followed_renamed (val.Binary And x y) i = refl
  followed_renamed (val.Binary Or x y) i = refl
  followed_renamed (val.Binary Xor x y) i = refl
  followed_renamed (val.Binary ShiftLeft x y) i = refl
  followed_renamed (val.Binary ShiftRightSigned x y) i = refl
  followed_renamed (val.Binary ShiftRightUnsigned x y) i = refl
  followed_renamed (val.Holds t) i = refl
  followed_renamed (val.FrameAddress offset) i = ap (λ (b : Base). Some (record { base = b; offset = offset })) (sym tied.frame)

  pub followed_old : (x : Value) → ValueIn n x → IsOldSome (followed K x)
  followed_old (val.Same x) i = symbol_old x i
  followed_old (val.Extended kind x) i = tt
  followed_old (val.Binary Add x (operand.Number k)) i = symbol_old x i.0
  followed_old (val.Binary Add (operand.Number k) (operand.Variable v)) i = tied.old v i.1
  followed_old (val.Binary Add (operand.Variable w) (operand.Variable v)) i = tt
  followed_old (val.Binary Subtract x (operand.Number k)) i = symbol_old x i.0
  followed_old (val.Binary Subtract x (operand.Variable v)) i = tt
  followed_old (val.Binary Multiply x y) i = tt
  followed_old (val.Binary DivideSigned x y) i = tt
  followed_old (val.Binary DivideUnsigned x y) i = tt
  followed_old (val.Binary RemainderSigned x y) i = tt
  followed_old (val.Binary RemainderUnsigned x y) i = tt
  followed_old (val.Binary And x y) i = tt
  followed_old (val.Binary Or x y) i = tt
  followed_old (val.Binary Xor x y) i = tt
  followed_old (val.Binary ShiftLeft x y) i = tt
  followed_old (val.Binary ShiftRightSigned x y) i = tt
  followed_old (val.Binary ShiftRightUnsigned x y) i = tt
  followed_old (val.Holds t) i = tt
  followed_old (val.FrameAddress offset) i = tt

abbrev pub extended : Renaming → Base → Base → Renaming
extended r b z c = if same_base c b then z else r c

-- what is known from now on, renamed; the old bases are renamed as before
pub record Next (h : Holders) (n : ℕ) (K K' C' : KnownInStretch) (r : Renaming) (l m : ℕ) (held : List Held) : Type 0 where
  pub renaming : Renaming
  pub tied : Tied h n K' C' renaming l m held
  pub agrees : (b : Base) → IsOldIn n K.times b → renaming b ≡ r b

module _ (h : Holders) (n : ℕ) (K C : KnownInStretch) (r : Renaming) (l m : ℕ) (held : List Held) (tied : Tied h n K C r l m held) (own : (i u : ℕ) → h i ≡ Some u → n ≤ u)
    (v : ℕ) (small : v < n) (x x' : Option SymAddr) (z : Base) (l' : ℕ) (few : l ≤ l')
    (apart : (b : Base) → IsImage h n K.times l b → same_base z b ≡ false) (image : IsImage h n (timed K.times v) l' z)
    (is : given C v x' ≡ renamed (extended r (Variable v (K.times v + 1)) z) (given K v x)) (old : IsOldIn n (timed K.times v) (let a = given K v x in a.base)) where
  abbrev r' : Renaming
  r' = extended r (next_base K v) z

  not_new : (b : Base) → IsOldIn n K.times b → same_base b (next_base K v) ≡ false
  not_new Number i = refl
  not_new Frame i = refl
  not_new (Variable w j) i = other_variable w j v (K.times v + 1) (λ p e. (let k : j ≤ K.times v = subst (λ (u : ℕ). j ≤ K.times u) p i.1 in omega (arith, k, e)))

  agrees_old : (b : Base) → IsOldIn n K.times b → r' b ≡ r b
  agrees_old b i = rw (not_new b i) refl

  at_new : r' (next_base K v) ≡ z
  at_new = rw (same_base_refl (next_base K v)) refl

  same_old : (a : SymAddr) → IsOldIn n K.times a.base → renamed r' a ≡ renamed r a
  same_old a i = ap (λ (b : Base). record { base = b; offset = a.offset }) (agrees_old a.base i)

  set_value : (w : ℕ) → w < n → (b : Bool) → (if b then given C v x' else C.value w) ≡ renamed r' (if b then given K v x else K.value w)
  set_value w few true = is
  set_value w few false = tied.value w few ∙ sym (same_old (K.value w) (tied.old w few))

  set_times : (w : ℕ) → w < n → (b : Bool) → (if b then C.times w + 1 else C.times w) ≡ (if b then K.times w + 1 else K.times w)
  set_times w few true = ap (λ (k : ℕ). k + 1) (tied.times w few)
  set_times w few false = tied.times w few

  set_old : (w : ℕ) → w < n → (b : Bool) → IsOldIn n (timed K.times v) (let a = (if b then given K v x else K.value w) in a.base)
  set_old w few true = old
  set_old w few false = still_old n K.times v _ (tied.old w few)

  set_injects : (b c : Base) → IsOldIn n K.times b ⊎ (b ≡ (next_base K v)) → IsOldIn n K.times c ⊎ (c ≡ (next_base K v)) → same_base (r' b) (r' c) ≡ same_base b c
  set_injects b c (inl i) (inl j) = rw (agrees_old b i, agrees_old c j) (tied.injects b c i j)
  set_injects b c (inl i) (inr e) =
      rw e (rw (at_new, agrees_old b i, not_new b i) (same_base_turned (r b) z ∙ apart (r b) (tied.image b i)))
  set_injects b c (inr d) (inl j) =
      rw d (rw (at_new, agrees_old c j) (apart (r c) (tied.image c j) ∙ sym (same_base_turned (next_base K v) c ∙ not_new c j)))
  set_injects b c (inr d) (inr e) = rw (d, e) (rw at_new (same_base_refl z ∙ sym (same_base_refl (next_base K v))))

  set_image : (b : Base) → IsOldIn n K.times b ⊎ (b ≡ (next_base K v)) → IsImage h n (timed K.times v) l' (r' b)
  set_image b (inl i) = rw (agrees_old b i) (still_image h n K.times v l l' few (r b) (tied.image b i))
  set_image b (inr e) = rw e (rw at_new image)

  set_kept : (xs : List Held) → AllTied h n K C r l xs → AllTied h n (set K v x) (set C v x') r' l' xs
  set_kept [] a = tt
  set_kept (y ∷ ys) a = (
    let i = a.0 in
        record {
          at = still_old n K.times v _ i.at;
          value = still_old n K.times v _ i.value;
          met = omega (arith, i.met, few);
          same = λ u e. rw (own_other v u n small (own y.number u e)) (i.same u e ∙ sym (same_old y.value i.value));
        },
    set_kept ys a.1,
  )

  pub set_tied : Next h n K (set K v x) (set C v x') r l' m held
  set_tied = record {
    renaming = r';
    tied = record {
      value = λ w few. set_value w few (nat_eq w v);
      times = λ w few. set_times w few (nat_eq w v);
      fresh = λ i u e late. rw (own_other v u n small (own i u e)) (tied.fresh i u e late);
      number = tied.number;
      frame = tied.frame;
      injects = λ b c i j. set_injects b c (new_or_old n K.times v b i) (new_or_old n K.times v c j);
      image = λ b i. set_image b (new_or_old n K.times v b i);
      old = λ w few. set_old w few (nat_eq w v);
      kept = set_kept held tied.kept;
    };
    agrees = agrees_old;
  }

-- ---- items

pub tied_later : (h : Holders) (n : ℕ) (K C : KnownInStretch) (r : Renaming) (l m m' : ℕ) (held : List Held) → m ≤ m' → Tied h n K C r l m held → Tied h n K C r l m' held
tied_later h n K C r l m m' held few tied = record {
  value = tied.value;
  times = tied.times;
  fresh = λ i u e late. tied.fresh i u e (omega (arith, few, late));
  number = tied.number;
  frame = tied.frame;
  injects = tied.injects;
  image = tied.image;
  old = tied.old;
  kept = tied.kept;
}

still_tied : (h : Holders) (n : ℕ) (K C : KnownInStretch) (r : Renaming) (l : ℕ) (y : SymAddr) (width : Width) (held : List Held) → AllTied h n K C r l held → AllTied h n K C r l (still_held held y width)
still_tied h n K C r l y width [] a = tt
still_tied h n K C r l y width (x ∷ xs) a = by (are_apart x.at (width_of x.kind) y width) (still_tied h n K C r l y width xs a.1) where
  by : (c : Bool) → AllTied h n K C r l (still_held xs y width) → AllTied h n K C r l (if c then x ∷ still_held xs y width else still_held xs y width)
  by true more = (a.0, more)
  by false more = more

pub store_tied : (h : Holders) (n : ℕ) (K C : KnownInStretch) (r : Renaming) (l m : ℕ) (held : List Held) (y : SymAddr) (width : Width) → Tied h n K C r l m held → Tied h n K C r l m (still_held held y width)
store_tied h n K C r l m held y width tied = record {
  value = tied.value;
  times = tied.times;
  fresh = tied.fresh;
  number = tied.number;
  frame = tied.frame;
  injects = tied.injects;
  image = tied.image;
  old = tied.old;
  kept = still_tied h n K C r l y width held tied.kept;
}

found_tied : (h : Holders) (n : ℕ) (K C : KnownInStretch) (r : Renaming) (l : ℕ) (held : List Held) (kind : LoadKind) (at : SymAddr) (g : Held) → held_in held kind at ≡ Some g → AllTied h n K C r l held → IsTied h n K C r l g
found_tied h n K C r l [] kind at g is a = cc
found_tied h n K C r l (x ∷ xs) kind at g is a = by (λ is. found_tied h n K C r l xs kind at g is a.1) (if_some (same_kind x.kind kind && same_place x.at at) x (held_in xs kind at) g is) where
  by : (held_in xs kind at ≡ Some g → IsTied h n K C r l g)
      → (((same_kind x.kind kind && same_place x.at at) ≡ true) × (x ≡ g)) ⊎ (((same_kind x.kind kind && same_place x.at at) ≡ false) × (held_in xs kind at ≡ Some g)) → IsTied h n K C r l g
  by more (inl e) = subst (λ (z : Held). IsTied h n K C r l z) e.1 a.0
  by more (inr e) = more e.1

-- what is known behind what a load is turned into
abbrev pub walked : KnownInStretch → ℕ → Option Held → Option ℕ → KnownInStretch
walked C v None None = set C v None
walked C v (Some g) None = set C v None
walked C v None (Some u) = set (set C u None) v (Some ((set C u None).value u))
walked C v (Some g) (Some u) = set C v (Some (C.value u))

timed_here : (times : ℕ → ℕ) (v : ℕ) → times v + 1 ≤ timed times v v
timed_here times v = rw (eq_refl v) (omega arith)

module _ (h : Holders) (n : ℕ) (K C : KnownInStretch) (r : Renaming) (l : ℕ) (held : List Held) (tied : Tied h n K C r l l held) (own : (i u : ℕ) → h i ≡ Some u → n ≤ u)
    (apart : (i j u : ℕ) → h i ≡ Some u → h j ≡ Some u → i ≡ j) (v : ℕ) (small : v < n) where
  next_apart : (b : Base) → IsImage h n K.times l b → same_base (next_base K v) b ≡ false
  next_apart Number i = refl
  next_apart Frame i = refl
  next_apart (Variable w j) (inl i) = other_variable v (K.times v + 1) w j (λ p e. (let k : j ≤ K.times v = subst (λ (u : ℕ). j ≤ K.times u) (sym p) i.1 in omega (arith, k, e)))
  next_apart (Variable w j) (inr i) = other_variable v (K.times v + 1) w j (λ p e. (let k = own i.0 w i.2 in omega (arith, k, p, small)))

  next_image : (m : ℕ) → IsImage h n (timed K.times v) m (next_base K v)
  next_image m = inl (small, timed_here K.times v)

  next_here : extended r (next_base K v) (next_base K v) (next_base K v) ≡ (next_base K v)
  next_here = rw (same_base_refl (next_base K v)) refl

  next_old : IsOldIn n (timed K.times v) (next_base K v)
  next_old = (small, timed_here K.times v)

  renewed_same : renewed C v ≡ renamed (extended r (next_base K v) (next_base K v)) (renewed K v)
  renewed_same = rw next_here (ap (λ (k : ℕ). record { base = Variable v (k + 1); offset = 0 }) (tied.times v small))

  some_same : (y : SymAddr) → IsOldIn n K.times y.base → renamed r y ≡ renamed (extended r (next_base K v) (next_base K v)) y
  some_same y i =
      ap (λ (b : Base). record { base = b; offset = y.offset })
      (sym (agrees_old h n K C r l l held tied own v small None None (next_base K v) l (omega arith) next_apart (next_image l) renewed_same next_old y.base i))

  given_same : (o : Option SymAddr) → IsOldSome h n K C r l l held tied own o → given C v (renamed_some h n K C r l l held tied own o) ≡ renamed (extended r (next_base K v) (next_base K v)) (given K v o)
  given_same None i = renewed_same
  given_same (Some y) i = some_same y i

  given_old : (o : Option SymAddr) → IsOldSome h n K C r l l held tied own o → IsOldIn n (timed K.times v) (let a = given K v o in a.base)
  given_old None i = next_old
  given_old (Some y) i = still_old n K.times v y.base i

  pub assign_next : (x : Value) → ValueIn n x → Next h n K (set K v (followed K x)) (set C v (followed C x)) r l l held
  assign_next x i =
      let o = followed K x in
      let old = followed_old h n K C r l l held tied own x i in
      rw (followed_renamed h n K C r l l held tied own x i)
      (set_tied h n K C r l l held tied own v small o (renamed_some h n K C r l l held tied own o) (next_base K v) l (omega arith) next_apart (next_image l) (given_same o old) (given_old o old))

  module _ (kind : LoadKind) (x : Operand) (named : IsIn n x) where
    abbrev entry : Held
    entry = record { kind = kind; at = symbol K x; value = renewed K v; number = l }

    -- with what was loaded held
    holds : (C' : KnownInStretch) (m : ℕ) (z : Next h n K (set K v None) C' r (suc l) m held) → ((u : ℕ) → h l ≡ Some u → C'.value u ≡ renamed z.renaming (renewed K v))
        → m ≤ suc l → Next h n K (set K v None) C' r (suc l) (suc l) (entry ∷ held)
    holds C' m z same few =
        let t = tied_later h n (set K v None) C' z.renaming (suc l) m (suc l) held few z.tied in
        record {
          renaming = z.renaming;
          tied = record {
            value = t.value;
            times = t.times;
            fresh = t.fresh;
            number = t.number;
            frame = t.frame;
            injects = t.injects;
            image = t.image;
            old = t.old;
            kept = (
              record {
                at = still_old n K.times v _ (symbol_old h n K C r l l held tied own x named);
                value = next_old;
                met = omega arith;
                same = same;
              },
              t.kept,
            );
          };
          agrees = z.agrees;
        }

    later : (K' C' : KnownInStretch) (held' : List Held) → Next h n K K' C' r (suc l) l held' → Next h n K K' C' r (suc l) (suc l) held'
    later K' C' held' z = record { renaming = z.renaming; tied = tied_later h n K' C' z.renaming (suc l) l (suc l) held' (omega arith) z.tied; agrees = z.agrees }

    -- ---- the load's own variable is set first

    module _ (u : ℕ) (mine : h l ≡ Some u) where
      abbrev cleared : KnownInStretch
      cleared = set C u None

      abbrev z : Base
      z = Variable u 1

      kept_cleared : (xs : List Held) → AllTied h n K C r l xs → AllTied h n K cleared r l xs
      kept_cleared [] a = tt
      kept_cleared (y ∷ ys) a = (
        let i = a.0 in
            record {
              at = i.at;
              value = i.value;
              met = i.met;
              same = λ w e. rw (other w y.number e i.met) (i.same w e);
            },
        kept_cleared ys a.1,
      ) where
        other : (w i : ℕ) → h i ≡ Some w → i < l → nat_eq w u ≡ false
        other w i e met = by (nat_eq w u) refl where
          by : (b : Bool) → nat_eq w u ≡ b → b ≡ false
          by true p = absurd (let q = apart i l u (subst (λ (c : ℕ). h i ≡ Some c) (eqb-true w u p) e) mine in omega (arith, q, met))
          by false p = refl

      tied_cleared : Tied h n K cleared r l (suc l) held
      tied_cleared = record {
        value = λ w few. rw (below_other w u n few (own l u mine)) (tied.value w few);
        times = λ w few. rw (below_other w u n few (own l u mine)) (tied.times w few);
        fresh = λ i w e late. rw (other w i e late) (tied.fresh i w e (omega (arith, late)));
        number = tied.number;
        frame = tied.frame;
        injects = tied.injects;
        image = tied.image;
        old = tied.old;
        kept = kept_cleared held tied.kept;
      } where
        other : (w i : ℕ) → h i ≡ Some w → suc l ≤ i → nat_eq w u ≡ false
        other w i e late = by (nat_eq w u) refl where
          by : (b : Bool) → nat_eq w u ≡ b → b ≡ false
          by true p = absurd (let q = apart i l u (subst (λ (c : ℕ). h i ≡ Some c) (eqb-true w u p) e) mine in omega (arith, q, late))
          by false p = refl

      z_apart : (b : Base) → IsImage h n K.times l b → same_base z b ≡ false
      z_apart Number i = refl
      z_apart Frame i = refl
      z_apart (Variable w j) (inl i) = other_variable u 1 w j (λ p e. (let k = own l u mine in omega (arith, k, p, i.0)))
      z_apart (Variable w j) (inr i) = other_variable u 1 w j (λ p e. (let q = apart i.0 l u (subst (λ (c : ℕ). h i.0 ≡ Some c) (sym p) i.2) mine in omega (arith, q, i.1)))

      z_image : IsImage h n (timed K.times v) (suc l) z
      z_image = inr (l, omega arith, mine)

      u_value : cleared.value u ≡ record { base = z; offset = 0 }
      u_value = rw (eq_refl u, tied.fresh l u mine (omega arith)) refl

      z_here : extended r (next_base K v) z (next_base K v) ≡ z
      z_here = rw (same_base_refl (next_base K v)) refl

      z_given : cleared.value u ≡ renamed (extended r (next_base K v) z) (renewed K v)
      z_given = u_value ∙ ap (λ (b : Base). record { base = b; offset = 0 }) (sym z_here)

      split : Next h n K (set K v None) (set cleared v (Some (cleared.value u))) r (suc l) (suc l) held
      split = set_tied h n K cleared r l (suc l) held tied_cleared own v small None (Some (cleared.value u)) z (suc l) (omega arith) z_apart z_image z_given next_old

    set_here : (X : KnownInStretch) (w : ℕ) (y : Option SymAddr) → (set X w y).value w ≡ given X w y
    set_here X w y = rw (eq_refl w) refl

    set_there : (X : KnownInStretch) (w u : ℕ) (y : Option SymAddr) → nat_eq u w ≡ false → (set X w y).value u ≡ X.value u
    set_there X w u y e = rw e refl

    value_split : (u : ℕ) (it : h l ≡ Some u) (u' : ℕ) → h l ≡ Some u' → (walked C v None (Some u)).value u' ≡ renamed (let s = split u it in s.renaming) (renewed K v)
    value_split u it u' e =
        let s = split u it in
        let t = s.tied in
        let same : u ≡ u' = some_is u u' (sym it ∙ e) in
        subst (λ (w : ℕ). (walked C v None (Some u)).value w ≡ renamed s.renaming (renewed K v)) same
        (set_there (cleared u it) v u (Some ((cleared u it).value u)) (own_other v u n small (own l u it))
        ∙ sym (set_here (cleared u it) v (Some ((cleared u it).value u)))
        ∙ t.value v small
        ∙ ap (λ (a : SymAddr). renamed s.renaming a) (set_here K v None))

    pub load_next : (o : Option Held) (holder : Option ℕ) → held_in held kind (symbol K x) ≡ o → h (number_of o l) ≡ holder → ((g : Held) → o ≡ Some g → (u : ℕ) × (h g.number ≡ Some u))
        → Next h n K (known_behind K v o) (walked C v o holder) r (suc l) (suc l) (held_behind K held l v kind x o)
    load_next None None is it marked =
        holds (set C v None) l (set_tied h n K C r l l held tied own v small None None (next_base K v) (suc l) (omega arith) next_apart (next_image (suc l)) renewed_same next_old)
        (λ u e. absurd (let c : None ≡ Some u = sym it ∙ e in cc)) (omega arith)
    load_next (Some g) None is it marked = absurd (let m = marked g refl in let c : None ≡ Some m.0 = sym it ∙ m.1 in cc)
    load_next None (Some u) is it marked = holds (walked C v None (Some u)) (suc l) (split u it) (value_split u it) (omega arith)
    load_next (Some g) (Some u) is it marked =
        let t = found_tied h n K C r l held kind (symbol K x) g is tied.kept in
        later (set K v (Some g.value)) (set C v (Some (C.value u))) held
        (set_tied h n K C r l l held tied own v small (Some g.value) (Some (C.value u)) (next_base K v) (suc l) (omega arith) next_apart (next_image (suc l))
        (t.same u it ∙ some_same g.value t.value) (still_old n K.times v _ t.value))
