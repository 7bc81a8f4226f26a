-- How the form follows the program: the form's variables below m are the program's, its worlds differ in the number of
-- items alone, and 9 items and loads are paid for by each unit of work.
use Rattle.std.proofs.Common.{◌≡◌, ℕ, ◌+◌, ◌*◌, ◌<◌, ◌≤◌, ◌⊎◌, inl, inr, Bool, true, false, ◌&&◌, nat_eq, if◌then◌else◌, refl, ◌∙◌, arith}
use Rattle.std.proofs.lemmas.Bool.Decides.{nat_tests}
use Rattle.std.proofs.lemmas.Bool.{or_parts}
use Rattle.dae_meaning.specs.Results.{Result, At, Over, Next, Leaves, Skips, Returns, End, Run, ◌▷◌}
use Rattle.dae_meaning.specs.Worlds.{World}
use Rattle.dae_ir.specs.Code.{Done, Do, If, Loop, CodeMeaning, exec}
use Rattle.dae_ir.specs.Form.{Form, value as held}
use Rattle.dae_meaning.specs.Variables.{Env, put}
use Rattle.dae_ir.specs.Classes.{VariableSet}
use Rattle.dae_ir.specs.declared.form.Item.{Item}
use Rattle.dae_ir.specs.declared.form.Test.{Test}
use Rattle.dae_ir.specs.declared.form.Operand.{Operand}
use Rattle.dae_ir.specs.declared.form.Operand.TheVariants.{Variable, Number}
use Rattle.dae_program.specs.Outcomes.{Outcome, Gives, Ends, ◌⟫◌}
use Rattle.dae_lower.specs.Lowering.{◌⨾◌, or}

-- ---- code that follows code

module _ {E : Type 0} where
  pub then_then : (r : Result E) (f g h : Run E) → ((e : E) (w : World) → f e w ≡ (g e w ▷ h)) → (r ▷ f) ≡ ((r ▷ g) ▷ h)
  then_then (At Next e w) f g h k = k e w
  then_then (At Leaves e w) f g h k = refl
  then_then (At Skips e w) f g h k = refl
  then_then (At Returns e w) f g h k = refl
  then_then (Over end w) f g h k = refl

pub exec_then : (m : CodeMeaning Item Test Env) (n : ℕ) (c d : Form) (e : Env) (w : World) → exec m n (c ⨾ d) e w ≡ (exec m n c e w ▷ exec m n d)
exec_then m n Done d e w = refl
exec_then m n (Do p item k) d e w = then_then (m.does item e w) _ _ _ (exec_then m n k d)
exec_then m n (If p t a b k) d e w = then_then _ _ _ _ (exec_then m n k d)
exec_then m n (Loop p body step k) d e w = then_then _ _ _ _ (exec_then m n k d)

-- ---- variables

-- the world with so many items
abbrev pub at : ℕ → World → World
at i w = record w { items = i }

abbrev pub Agree : ℕ → Env → Env → Type 0
Agree m env other = (v : ℕ) → v < m → other v ≡ env v

-- variables that are the form's own, or that the program doesn't assign
abbrev pub Fixed : ℕ → VariableSet → ℕ → Type 0
Fixed m c v = (m ≤ v) ⊎ (c v ≡ false)

-- what stays of the variables below k, where the program assigns those of c
abbrev pub Kept : ℕ → ℕ → VariableSet → Env → Env → Type 0
Kept m k c before after = (v : ℕ) → v < k → Fixed m c v → after v ≡ before v

-- an operand that is good as long as none of `later` is assigned, with variables from k to n
abbrev pub Lasts : ℕ → VariableSet → ℕ → ℕ → Operand → Type 0
Lasts m later k n (Variable v) = ((k ≤ v) × (v < n)) ⊎ ((v < m) × (later v ≡ false))
Lasts m later k n (Number x) = Unit {0}

pub fixed_left : (m : ℕ) (c d : VariableSet) (v : ℕ) → Fixed m (or c d) v → Fixed m c v
fixed_left m c d v (inl h) = inl h
fixed_left m c d v (inr h) = inr ((or_parts (c v) (d v) h).0)

pub fixed_right : (m : ℕ) (c d : VariableSet) (v : ℕ) → Fixed m (or c d) v → Fixed m d v
fixed_right m c d v (inl h) = inl h
fixed_right m c d v (inr h) = inr ((or_parts (c v) (d v) h).1)

-- first one, then another
pub kept_on : (m k n : ℕ) (c d : VariableSet) (e f g : Env) → k ≤ n → Kept m k c e f → Kept m n d f g → Kept m k (or c d) e g
kept_on m k n c d e f g h a b v l x = b v (omega (arith, l, h)) (fixed_right m c d v x) ∙ a v l (fixed_left m c d v x)

pub kept_all : (m k : ℕ) (c : VariableSet) (e : Env) → Kept m k c e e
kept_all m k c e v l x = refl

-- an operand keeps its value
pub still : (m k n : ℕ) (later c : VariableSet) (x : Operand) (e f : Env) → m ≤ k → k ≤ n → Lasts m (or later c) k n x → Kept m n c e f → held x f ≡ held x e
still m k n later c (Number x) e f l o h a = refl
still m k n later c (Variable v) e f l o (inl h) a = a v h.1 (inl (omega (arith, l, h.0)))
still m k n later c (Variable v) e f l o (inr h) a = a v (omega (arith, l, o, h.0)) (inr ((or_parts (later v) (c v) h.1).1))

-- nothing of the program's is assigned
pub still_alone : (m k n : ℕ) (later : VariableSet) (x : Operand) (e f : Env) → m ≤ k → k ≤ n → Lasts m later k n x → Kept m n (λ v. false) e f → held x f ≡ held x e
still_alone m k n later (Number x) e f l o h a = refl
still_alone m k n later (Variable v) e f l o (inl h) a = a v h.1 (inl (omega (arith, l, h.0)))
still_alone m k n later (Variable v) e f l o (inr h) a = a v (omega (arith, l, o, h.0)) (inr refl)

-- an operand lasts also where fewer are assigned later, and among more variables
pub lasts_on : (m : ℕ) (later c : VariableSet) (k n j q : ℕ) (x : Operand) → j ≤ k → n ≤ q → Lasts m (or later c) k n x → Lasts m later j q x
lasts_on m later c k n j q (Number x) l o h = tt
lasts_on m later c k n j q (Variable v) l o (inl h) = inl (omega (arith, l, h.0), omega (arith, o, h.1))
lasts_on m later c k n j q (Variable v) l o (inr h) = inr (h.0, (or_parts (later v) (c v) h.1).0)

pub lasts_wider : (m : ℕ) (later : VariableSet) (k n j q : ℕ) (x : Operand) → j ≤ k → n ≤ q → Lasts m later k n x → Lasts m later j q x
lasts_wider m later k n j q (Number x) l o h = tt
lasts_wider m later k n j q (Variable v) l o (inl h) = inl (omega (arith, l, h.0), omega (arith, o, h.1))
lasts_wider m later k n j q (Variable v) l o (inr h) = inr h

pub put_same : (v x : ℕ) (e : Env) → put true v x e v ≡ x
put_same v x e = by (nat_eq v v) refl where
  by : (b : Bool) → nat_eq v v ≡ b → (if (true && b) then x else e v) ≡ x
  by true h = refl
  by false h = let c : v ≡ v = refl in absurd (grind (arith, nat_tests))

pub put_other : (v x u : ℕ) (e : Env) → (u ≡ v → ⊥) → put true v x e u ≡ e u
put_other v x u e h = by (nat_eq u v) refl where
  by : (b : Bool) → nat_eq u v ≡ b → (if (true && b) then x else e u) ≡ e u
  by true k = absurd (h (grind (arith, nat_tests)))
  by false k = refl

-- ---- what runs alike

-- An evaluation and what is made of it: the value is in what `Is` says, and so many items and loads are still paid for. Both may end
-- instead, and alike.
pub data Alike {X : Type 0} (m k : ℕ) (c : VariableSet) (Is : X → Env → Type 0) (spare : ℕ) (e : Env) : Outcome X → Result Env → Type 0 where
  Both : (x : X) (env other : Env) (w : World) (i : ℕ) → Agree m env other → Kept m k c e other → Is x other → i + spare + w.loads ≤ 9 * w.items → Alike m k c Is spare e (Gives x env w) (At Next other (at i w))
  Stop : (end : End) (w : World) (i : ℕ) → i + w.loads ≤ 9 * w.items → Alike m k c Is spare e (Ends end w) (Over end (at i w))

module _ {X Y : Type 0} {m k j : ℕ} {c d : VariableSet} {Is : X → Env → Type 0} {Are : Y → Env → Type 0} {s t : ℕ} {e : Env} where
  -- one after the other
  pub after : (r : Outcome X) (q : Result Env) (f : X → Env → World → Outcome Y) (g : Run Env) → Alike m k c Is s e r q → ((x : X) (env other : Env) (w : World) (i : ℕ) → Agree m env other → Kept m k c e other → Is x other → i + s + w.loads ≤ 9 * w.items → Alike m j d Are t e (f x env w) (g other (at i w))) → Alike m j d Are t e (r ⟫ f) (q ▷ g)
  after r q f g (Both x env other w i a b h l) go = go x env other w i a b h l
  after r q f g (Stop end w i l) go = Stop end w i l

module _ {X : Type 0} {m : ℕ} {Is : X → Env → Type 0} where
  -- less is paid for, more may have changed
  pub fewer : (k : ℕ) (c d : VariableSet) (s t : ℕ) (e : Env) → t ≤ s → ((v : ℕ) → Fixed m d v → Fixed m c v) → (r : Outcome X) (q : Result Env) → Alike m k c Is s e r q → Alike m k d Is t e r q
  fewer k c d s t e l o r q (Both x env other w i a b y h) = Both x env other w i a (λ v u z. b v u (o v z)) y (omega (arith, l, h))
  fewer k c d s t e l o r q (Stop end w i h) = Stop end w i h
