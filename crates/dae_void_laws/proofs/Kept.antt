-- What holds of whatever a plan gives, from tables of which something is known: shapes of types go on at the end, a typedef names a type
-- that is there, and a function that is exit or abort of the library has a type that returns void. There is one lemma for each constructor
-- of plans.
use Rattle.std.proofs.Common.{◌≡◌, ℕ, zero, suc, ◌≤◌, ◌<◌, Bool, true, false, List, [], ◌∷◌, ◌++◌, length, drop, take, Option, Some, None, Result, Ok, Err, reverse, refl, sym, ap, ◌∙◌, subst, arith, length-append}
use Rattle.std.proofs.lemmas.List.{reverse-append}
use Rattle.std.proofs.lemmas.Option.{slice_get_within}
use Rattle.std.specs.List.{AllByRecursion, find}
use Rattle.std.specs.Prelude.{IfOk, cond, slice_get, if◌then◌else◌}
use Rattle.dae_base.proofs.Laws.{all_join}
use Rattle.dae_tree.specs.declared.expressions.Name.{Name}
use Rattle.dae_types_kinds.specs.declared.rules.Breach.{Breach}
use Rattle.dae_types_kinds.specs.declared.rules.Rule.{Rule}
use Rattle.dae_types_kinds.specs.declared.tables.Designation.{Designation}
use Rattle.dae_types_kinds.specs.declared.tables.Entity.{Entity}
use Rattle.dae_types_kinds.specs.declared.tables.Entity.TheVariants as entity
use Rattle.dae_types_kinds.specs.declared.tables.Innermost.{Innermost}
use Rattle.dae_types_kinds.specs.declared.tables.LibraryFunction.{LibraryFunction}
use Rattle.dae_types_kinds.specs.declared.tables.LibraryFunction.TheVariants as library
use Rattle.dae_types_kinds.specs.declared.tables.Routine.{Routine}
use Rattle.dae_types_kinds.specs.declared.types.Shape.{Shape}
use Rattle.dae_types_kinds.specs.declared.types.Shape.TheVariants as shape
use Rattle.dae_types_kinds.specs.Tables.{Tables, with_shape, with_name, closed, with_uses, written_at}
use Rattle.dae_types_kinds.specs.Types.{void_id, shape_of, shape_or}
use Rattle.dae_types_kinds.specs.Values.{result_of}
use Rattle.dae_types_rules.specs.Plan.{CheckPlan, BrokenName, pure, both, node, maps, chain, pardons, settles, unless_spoiled, ◌>>=◌, ask_in, ask_all, check_of}
use Rattle.dae_types_rules.specs.Sites.{Site, place}
use Rattle.dae_types_rules.specs.Table.{breaks, asked}
use Rattle.dae_types_plans.specs.Steps.{looks, changes_to, ends, scoped, unused, settles_name}

-- ---- lists

-- both what is taken and what is left
all_parted : {X : Type 0} (P : X → Type 0) (n : ℕ) (xs : List X) → AllByRecursion P xs → AllByRecursion P (take n xs) × AllByRecursion P (drop n xs)
all_parted P zero xs h = (tt, h)
all_parted P (suc n) [] h = (tt, tt)
all_parted P (suc n) (x ∷ xs) h = let rest = all_parted P n xs h.1 in ((h.0, rest.0), rest.1)

pub all_written : {X : Type 0} (P : X → Type 0) (n : ℕ) (x : X) (xs : List X) → P x → AllByRecursion P xs → AllByRecursion P (written_at n x xs)
all_written P n x [] p h = tt
all_written P zero x (y ∷ ys) p h = (p, h.1)
all_written P (suc n) x (y ∷ ys) p h = (h.0, all_written P n x ys p h.1)

pub all_more : {X : Type 0} (P Q : X → Type 0) → ((x : X) → P x → Q x) → (xs : List X) → AllByRecursion P xs → AllByRecursion Q xs
all_more P Q k [] h = tt
all_more P Q k (x ∷ xs) h = (k x h.0, all_more P Q k xs h.1)

-- what two answers of a test both have
pub either_has : {X : Type 0} (P : X → Type 0) (b : Bool) (x y : X) → P x → P y → P (if b then x else y)
either_has P true x y h k = h
either_has P false x y h k = k

-- what an element that is there has
abbrev pub IfThere : {X : Type 0} → (X → Type 0) → Option X → Type 0
IfThere P None = Unit {0}
IfThere P (Some x) = P x

pub all_at : {X : Type 0} (P : X → Type 0) (xs : List X) (n : ℕ) → AllByRecursion P xs → IfThere P (slice_get xs n)
all_at P [] n h = tt
all_at P (x ∷ xs) zero h = h.0
all_at P (x ∷ xs) (suc n) h = all_at P xs n h.1

all_reverse : {X : Type 0} (P : X → Type 0) (xs : List X) → AllByRecursion P xs → AllByRecursion P (reverse xs)
all_reverse P [] h = tt
all_reverse P (x ∷ xs) h = subst (AllByRecursion P) (sym (reverse-append (x ∷ []) xs)) (all_join P (reverse xs) (x ∷ []) (all_reverse P xs h.1) (h.0, tt))

all_found : {X : Type 0} (P : X → Type 0) (test : X → Bool) (xs : List X) → AllByRecursion P xs → IfThere P (find test xs)
all_found P test [] h = tt
all_found P test (x ∷ xs) h = by (test x) (all_found P test xs h.1) where
  by : (b : Bool) → IfThere P (find test xs) → IfThere P (cond b (Some x) (find test xs))
  by true k = h.0
  by false k = k

pub all_latest : {X : Type 0} (P : X → Type 0) (test : X → Bool) (xs : List X) → AllByRecursion P xs → IfThere P (find test (reverse xs))
all_latest P test xs h = all_found P test (reverse xs) (all_reverse P xs h)

-- ---- shapes

abbrev pub shape_in : List Shape → ℕ → Shape
shape_in xs n = shape_or (slice_get xs n)

pub shape_is : (s : Tables) (n : ℕ) → shape_of s n ≡ shape_in s.shapes n
unfolding shape_of
shape_is s n = refl

-- shapes that go on from others
pub record Extends (xs ys : List Shape) : Type 0 where
  pub more : length xs ≤ length ys
  pub same : (n : ℕ) → n < length xs → shape_in ys n ≡ shape_in xs n

pub extends_same : (xs : List Shape) → Extends xs xs
extends_same xs = record { more = omega arith; same = λ n l. refl }

pub extends_further : {xs ys zs : List Shape} → Extends xs ys → Extends ys zs → Extends xs zs
extends_further g h = record { more = let a = g.more in let b = h.more in omega (arith, a, b); same = λ n l. (let a = g.more in h.same n (omega (arith, a, l))) ∙ g.same n l }

shape_left : (xs ys : List Shape) (n : ℕ) → n < length xs → shape_in (xs ++ ys) n ≡ shape_in xs n
shape_left [] ys n l = absurd (omega (arith, l))
shape_left (x ∷ xs) ys zero l = refl
shape_left (x ∷ xs) ys (suc n) l = shape_left xs ys n (omega (arith, l))

pub shape_last : (xs : List Shape) (x : Shape) → shape_in (xs ++ (x ∷ [])) (length xs) ≡ x
shape_last [] x = refl
shape_last (y ∷ xs) x = shape_last xs x

pub one_more : (xs : List Shape) (x : Shape) → Extends xs (xs ++ (x ∷ []))
one_more xs x = record { more = let h = length-append xs (x ∷ []) in omega (arith, h); same = shape_left xs (x ∷ []) }

pub last_there : (xs : List Shape) (x : Shape) → length xs < length (xs ++ (x ∷ []))
last_there xs x = let h = length-append xs (x ∷ []) in omega (arith, h)

-- ---- tables of which something is known

-- a typedef names a type that is there
abbrev pub Names : List Shape → Entity → Type 0
Names xs (entity.Type t) = t < length xs
Names xs e = Unit {0}

abbrev pub IsNameIn : List Shape → Designation → Type 0
IsNameIn xs d = Names xs d.entity

-- exit and abort return void
abbrev pub Returns : List Shape → Option LibraryFunction → ℕ → Type 0
Returns xs (Some library.Exit) t = result_of (shape_in xs t) ≡ void_id
Returns xs (Some library.Abort) t = result_of (shape_in xs t) ≡ void_id
Returns xs l t = Unit {0}

abbrev pub IsRoutineIn : List Shape → Routine → Type 0
IsRoutineIn xs r = Returns xs r.library r.type_id

-- the basic types are there, and the first is void
pub record Sane (xs : List Shape) (ds es : List Designation) (rs : List Routine) : Type 0 where
  pub many : 9 ≤ length xs
  pub void : shape_in xs 0 ≡ shape.Void
  pub names : AllByRecursion (IsNameIn xs) ds
  pub kept : AllByRecursion (IsNameIn xs) es
  pub routines : AllByRecursion (IsRoutineIn xs) rs

abbrev pub Kept : Tables → Type 0
Kept s = Sane s.shapes s.names s.kept_names s.routines

pub names_on : {xs ys : List Shape} → Extends xs ys → (e : Entity) → Names xs e → Names ys e
names_on g (entity.Type t) h = let a = g.more in omega (arith, a, h)
names_on g (entity.Object n) h = tt
names_on g (entity.Function n) h = tt
names_on g (entity.Local n) h = tt
names_on g (entity.Enumerator w) h = tt

function_there : (xs : List Shape) (t : ℕ) → result_of (shape_in xs t) ≡ void_id → t < length xs
function_there xs t h = by (slice_get xs t) refl h where
  by : (o : Option Shape) → slice_get xs t ≡ o → result_of (shape_or o) ≡ void_id → t < length xs
  by None e h = absurd (omega (arith, h))
  by (Some x) e h = slice_get_within xs t x e

result_on : {xs ys : List Shape} → Extends xs ys → (t : ℕ) → result_of (shape_in xs t) ≡ void_id → result_of (shape_in ys t) ≡ void_id
result_on {xs} {ys} g t h = ap result_of (g.same t (function_there xs t h)) ∙ h

pub returns_on : {xs ys : List Shape} → Extends xs ys → (l : Option LibraryFunction) (t : ℕ) → Returns xs l t → Returns ys l t
returns_on g None t h = tt
returns_on g (Some library.Exit) t h = result_on g t h
returns_on g (Some library.Abort) t h = result_on g t h
returns_on g (Some library.Printf) t h = tt
returns_on g (Some library.Putchar) t h = tt

pub sane_on : {xs ys : List Shape} {ds es : List Designation} {rs : List Routine} → Extends xs ys → Sane xs ds es rs → Sane ys ds es rs
sane_on {xs} {ys} {ds} {es} {rs} g k = record {
  many = let a = g.more in let b = k.many in omega (arith, a, b);
  void = g.same 0 (let b = k.many in omega (arith, b)) ∙ k.void;
  names = all_more (IsNameIn xs) (IsNameIn ys) (λ d h. names_on g d.entity h) ds k.names;
  kept = all_more (IsNameIn xs) (IsNameIn ys) (λ d h. names_on g d.entity h) es k.kept;
  routines = all_more (IsRoutineIn xs) (IsRoutineIn ys) (λ r h. returns_on g r.library r.type_id h) rs k.routines;
}

-- ---- no rule of these sites is broken

abbrev pub IsUnbroken : Site → List Rule → Type 0
IsUnbroken s rs = AllByRecursion (λ r. breaks r s ≡ false) rs

abbrev pub AreUnbroken : List Site → Type 0
AreUnbroken [] = Unit {0}
AreUnbroken (s ∷ ss) = IsUnbroken s (asked s) × AreUnbroken ss

pub bind : {A B : Type 0} (r : Result A Breach) (f : A → Result B Breach) (P : A → Type 0) (Q : B → Type 0) → IfOk r P → ((x : A) → P x → IfOk (f x) Q) → IfOk (r >>= f) Q
bind (Ok x) f P Q h k = k x h
bind (Err e) f P Q h k = tt

told : {A : Type 0} (b : Bool) (x : Rule) (s : Site) (r : Result A Breach) (Q : A → Type 0) → (b ≡ false → IfOk r Q) → IfOk {T = A} (elim b [ true ↦ Err (record { rule = x; place = place s }) | false ↦ r ]) Q
told true x s r Q h = tt
told false x s r Q h = h refl

one_asked : {A : Type 0} (rs : List Rule) (s : Site) (r : Result A Breach) (Q : A → Type 0) → (IsUnbroken s rs → IfOk r Q) → IfOk (ask_in rs s r) Q
one_asked [] s r Q h = h tt
one_asked (x ∷ rs) s r Q h = told (breaks x s) x s (ask_in rs s r) Q (λ e. one_asked rs s r Q (λ u. h (e, u)))

pub all_asked : {A : Type 0} (ss : List Site) (r : Result A Breach) (Q : A → Type 0) → (AreUnbroken ss → IfOk r Q) → IfOk (ask_all ss r) Q
unfolding ask_all
all_asked [] r Q h = h tt
all_asked (s ∷ ss) r Q h = one_asked (asked s) s (ask_all ss r) Q (λ u. all_asked ss r Q (λ v. h (u, v)))

-- ---- plans

-- tables that are kept go on from others, and After holds of their shapes and of the value
pub record Come {A : Type 0} (After : List Shape → A → Type 0) (s : Tables) (y : Tables × A) : Type 0 where
  pub kept : Kept y.0
  pub on : Extends s.shapes y.0.shapes
  pub so : After y.0.shapes y.1

pub record Leads {A : Type 0} (Before : List Shape → Type 0) (After : List Shape → A → Type 0) (m : CheckPlan A) : Type 0 where
  pub leads : (s : Tables) → Kept s → Before s.shapes → IfOk (check_of m s) (Come After s)

-- nothing is known
abbrev pub Any : List Shape → Type 0
Any xs = Unit {0}

abbrev pub Anything : {A : Type 0} → List Shape → A → Type 0
Anything xs x = Unit {0}

-- what stays true while shapes go on
abbrev pub Lasts : {A : Type 0} → (List Shape → A → Type 0) → Type 0
Lasts {A} P = (xs ys : List Shape) (x : A) → Extends xs ys → P xs x → P ys x

come_on : {A : Type 0} (After : List Shape → A → Type 0) (s t : Tables) (r : Result (Tables × A) Breach) → Extends s.shapes t.shapes → IfOk r (Come After t) → IfOk r (Come After s)
come_on After s t (Ok y) g q = record { kept = q.kept; on = extends_further g q.on; so = q.so }
come_on After s t (Err e) g q = tt

pub leads_pure : {A : Type 0} {Before : List Shape → Type 0} {After : List Shape → A → Type 0} (x : A) → ((xs : List Shape) → 9 ≤ length xs → Before xs → After xs x) → Leads Before After (pure x)
leads_pure x h = record { leads = λ s k b. record { kept = k; on = extends_same s.shapes; so = h s.shapes k.many b } }

pub leads_maps : {A B : Type 0} {Before : List Shape → Type 0} {Between : List Shape → A → Type 0} {After : List Shape → B → Type 0} {g : Tables → A → Tables × B} {m : CheckPlan A} →
    Leads Before Between m → ((s : Tables) (x : A) → Kept s → Between s.shapes x → Come After s (g s x)) → Leads Before After (maps g m)
leads_maps {A} {B} {Before} {Between} {After} {g} {m} h step = record {
  leads = λ s k b.
      bind (check_of m s) (λ x. Ok (g x.0 x.1)) (Come Between s) (Come After s) (h.leads s k b)
      (λ x q. come_on After s x.0 (Ok (g x.0 x.1)) q.on (step x.0 x.1 q.kept q.so));
}

pub leads_node : {A B : Type 0} {Before : List Shape → Type 0} {Between : List Shape → A → Type 0} {After : List Shape → B → Type 0} {f : Tables → A → List Site} {g : Tables → A → Tables × B} {m : CheckPlan A} →
    Leads Before Between m → ((s : Tables) (x : A) → Kept s → Between s.shapes x → AreUnbroken (f s x) → Come After s (g s x)) → Leads Before After (node f g m)
leads_node {A} {B} {Before} {Between} {After} {f} {g} {m} h step = record {
  leads = λ s k b.
      bind (check_of m s) (λ x. ask_all (f x.0 x.1) (Ok (g x.0 x.1))) (Come Between s) (Come After s) (h.leads s k b)
      (λ x q. all_asked (f x.0 x.1) (Ok (g x.0 x.1)) (Come After s) (λ u. come_on After s x.0 (Ok (g x.0 x.1)) q.on (step x.0 x.1 q.kept q.so u)));
}

pub leads_chain : {A B : Type 0} {Before : List Shape → Type 0} {Between : List Shape → A → Type 0} {After : List Shape → B → Type 0} {d : A} {m : CheckPlan A} {l : A → CheckPlan B} →
    Leads Before Between m → ((x : A) → Leads (λ xs. Between xs x) After (l x)) → Leads Before After (chain d m l)
leads_chain {A} {B} {Before} {Between} {After} {d} {m} {l} h j = record {
  leads = λ s k b.
      bind (check_of m s) (λ x. check_of (l x.1) x.0) (Come Between s) (Come After s) (h.leads s k b)
      (λ x q. come_on After s x.0 (check_of (l x.1) x.0) q.on ((j x.1).leads x.0 q.kept q.so));
}

pub leads_both : {A B : Type 0} {Before : List Shape → Type 0} {P : List Shape → A → Type 0} {Q : List Shape → B → Type 0} {m : CheckPlan A} {l : CheckPlan B} →
    Lasts P → Leads Before P m → Leads Any Q l → Leads Before (λ (xs : List Shape) (x : A × B). P xs x.0 × Q xs x.1) (both m l)
leads_both {A} {B} {Before} {P} {Q} {m} {l} lasts h j = record {
  leads = λ s k b.
      bind (check_of m s) (λ x. check_of l x.0 >>= λ y. Ok (y.0, (x.1, y.1))) (Come P s) (Come (λ (xs : List Shape) (x : A × B). P xs x.0 × Q xs x.1) s) (h.leads s k b)
      (λ x q. bind (check_of l x.0) (λ y. Ok (y.0, (x.1, y.1))) (Come Q x.0) (Come (λ (xs : List Shape) (x : A × B). P xs x.0 × Q xs x.1) s) (j.leads x.0 q.kept tt)
      (λ y z. record { kept = z.kept; on = extends_further q.on z.on; so = (lasts x.0.shapes y.0.shapes x.1 z.on q.so, z.so) }));
}

pub leads_before : {A : Type 0} {Before Earlier : List Shape → Type 0} {P : List Shape → A → Type 0} {m : CheckPlan A} → ((xs : List Shape) → Earlier xs → Before xs) → Leads Before P m → Leads Earlier P m
leads_before k h = record { leads = λ s j b. h.leads s j (k s.shapes b) }

-- what is known before and lasts is known behind
pub leads_carry : {A : Type 0} {Before : List Shape → Type 0} {P : List Shape → A → Type 0} {m : CheckPlan A} → ((xs ys : List Shape) → Extends xs ys → Before xs → Before ys) → Leads Before P m → Leads Before (λ xs x. Before xs × P xs x) m
leads_carry {A} {Before} {P} {m} lasts h = record { leads = λ s j b. by s b (check_of m s) (h.leads s j b) } where
  by : (s : Tables) → Before s.shapes → (r : Result (Tables × A) Breach) → IfOk r (Come P s) → IfOk r (Come (λ xs x. Before xs × P xs x) s)
  by s b (Ok y) q = record { kept = q.kept; on = q.on; so = (lasts s.shapes y.0.shapes q.on b, q.so) }
  by s b (Err e) q = tt

-- what is known before and is not of the shapes
pub leads_if : {A : Type 0} {P : Type 0} {After : List Shape → A → Type 0} {m : CheckPlan A} → (P → Leads Any After m) → Leads (λ xs. P) After m
leads_if h = record { leads = λ s k b. (h b).leads s k tt }

-- with what else is known before
pub leads_given : {A : Type 0} {Before : List Shape → Type 0} {P : Type 0} {After : List Shape → A → Type 0} {m : CheckPlan A} → (P → Leads Before After m) → Leads (λ xs. Before xs × P) After m
leads_given h = record { leads = λ s k b. (h b.1).leads s k b.0 }

pub leads_settles : {A : Type 0} {Before : List Shape → Type 0} {After : List Shape → A → Type 0} {m : CheckPlan A} (k : BrokenName) → Leads Before After m → Leads Before After (settles k m)
leads_settles k h = record { leads = h.leads }

pub leads_unless : {A : Type 0} {Before : List Shape → Type 0} {After : List Shape → A → Type 0} {m : CheckPlan A} (k : BrokenName) → Leads Before After m → Leads Before After (unless_spoiled k m)
leads_unless k h = record { leads = h.leads }

pub leads_pardons : {A : Type 0} {Before : List Shape → Type 0} {After : List Shape → A → Type 0} {m : CheckPlan A} (d : A) → Leads Before After m → Leads Before After (pardons d m)
leads_pardons d h = record { leads = h.leads }

pub leads_named : {A : Type 0} {Before : List Shape → Type 0} {After : List Shape → A → Type 0} {m : CheckPlan A} (n : Option Name) → Leads Before After m → Leads Before After (settles_name n m)
leads_named None h = h
leads_named (Some n) h = leads_settles _ h

-- ---- words made of them

-- tables with the same shapes that are kept
pub come_same : {A : Type 0} {After : List Shape → A → Type 0} {s : Tables} {x : A} → Kept s → After s.shapes x → Come After s (s, x)
come_same {A} {After} {s} k h = record { kept = k; on = extends_same s.shapes; so = h }

pub leads_reads : {A B : Type 0} {Before : List Shape → Type 0} {Between : List Shape → A → Type 0} {After : List Shape → B → Type 0} {g : Tables → A → B} {m : CheckPlan A} →
    Leads Before Between m → ((s : Tables) (x : A) → Kept s → Between s.shapes x → After s.shapes (g s x)) → Leads Before After (maps (λ s x. (s, g s x)) m)
leads_reads h step = leads_maps h (λ s x k b. come_same k (step s x k b))

pub leads_sites : {A B : Type 0} {Before : List Shape → Type 0} {Between : List Shape → A → Type 0} {After : List Shape → B → Type 0} {f : Tables → A → List Site} {g : Tables → A → B} {m : CheckPlan A} →
    Leads Before Between m → ((s : Tables) (x : A) → Kept s → Between s.shapes x → AreUnbroken (f s x) → After s.shapes (g s x)) → Leads Before After (node f (λ s x. (s, g s x)) m)
leads_sites h step = leads_node h (λ s x k b u. come_same k (step s x k b u))

pub leads_nothing : {Before : List Shape → Type 0} → Leads Before (λ xs x. Before xs) (pure (tt {0}))
leads_nothing = leads_pure (tt {0}) (λ xs l b. b)

pub leads_looks : {A : Type 0} {Before : List Shape → Type 0} {After : List Shape → A → Type 0} (f : Tables → A) → ((s : Tables) → Kept s → Before s.shapes → After s.shapes (f s)) → Leads Before After (looks f)
leads_looks f h = leads_reads leads_nothing (λ s x k b. h s k b)

-- tables that are kept where others are, and go on from them
pub record Wider (s t : Tables) : Type 0 where
  pub on : Extends s.shapes t.shapes
  pub kept : Kept s → Kept t

pub wide : (s : Tables) → Wider s s
wide s = record { on = extends_same s.shapes; kept = λ k. k }

pub wider : {s t u : Tables} → Wider s t → Wider t u → Wider s u
wider g h = record { on = extends_further g.on h.on; kept = λ k. h.kept (g.kept k) }

pub come_wider : {A : Type 0} {After : List Shape → A → Type 0} {s t : Tables} {x : A} → Wider s t → Kept s → After t.shapes x → Come After s (t, x)
come_wider w k h = record { kept = w.kept k; on = w.on; so = h }

pub leads_changes : {Before : List Shape → Type 0} (f : Tables → Tables) → ((s : Tables) → Wider s (f s)) → Leads Before Anything (changes_to f)
leads_changes f h = leads_maps leads_nothing (λ s x k b. come_wider (h s) k tt)

pub leads_ends : {A : Type 0} {Before : List Shape → Type 0} {After : List Shape → A → Type 0} {m : CheckPlan A} (f : Tables → Tables) → Lasts After → ((s : Tables) → Wider s (f s)) → Leads Before After m → Leads Before After (ends f m)
leads_ends f lasts h k = leads_reads (leads_both lasts k (leads_changes f h)) (λ s x j b. b.0)

pub closed_wider : (outer : Innermost) (s : Tables) → Wider s (closed outer s)
closed_wider outer s = record {
  on = extends_same s.shapes;
  kept = λ k.
      let names = all_parted (IsNameIn s.shapes) s.innermost.names s.names k.names in
      record { many = k.many; void = k.void; names = names.0; kept = names.1; routines = k.routines };
}

pub leads_scoped : {A : Type 0} {Before : List Shape → Type 0} {After : List Shape → A → Type 0} {m : CheckPlan A} → Lasts After → Leads Before After m → Leads Before After (scoped m)
leads_scoped {A} {Before} lasts h =
    leads_chain {Between = λ xs o. Before xs} (leads_maps leads_nothing (λ s x k b. record { kept = k; on = extends_same s.shapes; so = b }))
    (λ outer. leads_ends (closed outer) lasts (closed_wider outer) h)

pub leads_unused : {A : Type 0} {Before : List Shape → Type 0} {After : List Shape → A → Type 0} {m : CheckPlan A} → Lasts After → Leads Before After m → Leads Before After (unused m)
leads_unused {A} {Before} lasts h =
    leads_chain {Between = λ xs us. Before xs} (leads_looks (λ s. s.uses) (λ s k b. b))
    (λ us. leads_ends (with_uses us) lasts (λ s. record { on = extends_same s.shapes; kept = λ k. k }) h)

-- ---- tables that grow

pub shape_wider : (x : Shape) (s : Tables) → Wider s (with_shape x s)
shape_wider x s = record { on = one_more s.shapes x; kept = sane_on (one_more s.shapes x) }

pub kept_name : (n : ℕ) (e : Entity) (s : Tables) → Names s.shapes e → Kept s → Kept (with_name n e s)
kept_name n e s h k = record { many = k.many; void = k.void; names = all_join (IsNameIn s.shapes) s.names (record { name = n; entity = e } ∷ []) k.names (h, tt); kept = k.kept; routines = k.routines }
