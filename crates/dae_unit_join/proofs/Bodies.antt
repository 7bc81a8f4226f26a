-- The functions of all files, side by side with their rows.
use Rattle.std.proofs.Common.{◌≡◌, ℕ, zero, suc, ◌+◌, Bool, false, inl, inr, List, [], ◌∷◌, ◌++◌, length, Some, refl, sym, ap, subst, ◌∙◌, arith}
use Rattle.std.specs.Prelude.{slice_get}
use Rattle.dae_types_kinds.specs.declared.tables.Entity.{Entity}
use Rattle.dae_types_kinds.specs.declared.tables.Entity.TheVariants as entity
use Rattle.dae_program.specs.declared.program.Function.{Function}
use Rattle.dae_types_file_plans.specs.declared.declarations.FileDeclaration.{FileDeclaration}
use Rattle.dae_types_typed.specs.declared.files.FileParts.{FileParts}
use Rattle.dae_types_typed.specs.declared.files.TypedFunction.{TypedFunction}
use Rattle.dae_types_typed.specs.Linkage.{is_reference}
use Rattle.dae_types_typed.specs.Sound.{routines_in, defined_routines, before_routines}
use Rattle.dae_unit.specs.declared.rows.FileRow.{FileRow}
use Rattle.dae_unit.specs.Meanings.{body_row, body_rows, bodies_from, bodies_of, function_of, functions_in, functions_from}
use Rattle.dae_unit_join.proofs.Among.{Among, among_front, among_last}

-- ---- rows and functions side by side

-- a row and a function are those of one function with a body
pub record IsBody (files : List FileParts) (b : FileRow) (f : Function) : Type 0 where
  pub file : ℕ
  pub parts : FileParts
  pub typed : TypedFunction
  pub there : slice_get files file ≡ Some parts
  pub among : Among typed parts.functions
  pub row : b ≡ body_row file typed
  pub function : f ≡ function_of file typed

abbrev pub ArePaired : List FileParts → List FileRow → List Function → Type 0
ArePaired files [] [] = Unit {0}
ArePaired files (b ∷ bs) (f ∷ fs) = IsBody files b f × ArePaired files bs fs
ArePaired files _ _ = ⊥

paired_last : (files : List FileParts) (bs : List FileRow) (fs : List Function) (b : FileRow) (f : Function) → ArePaired files bs fs → IsBody files b f → ArePaired files (bs ++ b ∷ []) (fs ++ f ∷ [])
paired_last files [] [] b f p h = (h, tt)
paired_last files [] (g ∷ gs) b f p h = absurd p
paired_last files (c ∷ cs) [] b f p h = absurd p
paired_last files (c ∷ cs) (g ∷ gs) b f p h = (p.0, paired_last files cs gs b f p.1 h)

paired_in_file : (files : List FileParts) (g : FileParts) (k : ℕ) → slice_get files k ≡ Some g → (bs : List FileRow) (fs : List Function) (ts : List TypedFunction) → ((t : TypedFunction) → Among t ts → Among t g.functions) → ArePaired files bs fs → ArePaired files (body_rows bs k ts) (functions_in fs k ts)
paired_in_file files g k h bs fs [] sub p = p
paired_in_file files g k h bs fs (t ∷ ts) sub p =
    paired_in_file files g k h (bs ++ body_row k t ∷ []) (fs ++ function_of k t ∷ []) ts (λ u m. sub u (inr m))
    (paired_last files bs fs (body_row k t) (function_of k t) p (record { file = k; parts = g; typed = t; there = h; among = sub t (inl refl); row = refl; function = refl }))

paired_from : (files : List FileParts) (bs : List FileRow) (fs : List Function) (k : ℕ) (gs : List FileParts) → ((i : ℕ) (g : FileParts) → slice_get gs i ≡ Some g → slice_get files (k + i) ≡ Some g) → ArePaired files bs fs → ArePaired files (bodies_from bs k gs) (functions_from fs k gs)
paired_from files bs fs k [] sub p = p
paired_from files bs fs k (g ∷ gs) sub p =
    let n : k + 0 ≡ k = omega arith in
    let here : slice_get files k ≡ Some g = subst (λ z. slice_get files z ≡ Some g) n (sub 0 g refl) in
    paired_from files (body_rows bs k g.functions) (functions_in fs k g.functions) (suc k) gs
    (λ i h q. (let n : k + suc i ≡ suc k + i = omega arith in subst (λ z. slice_get files z ≡ Some h) n (sub (suc i) h q)))
    (paired_in_file files g k here bs fs g.functions (λ t m. m) p)

pub paired : (files : List FileParts) → ArePaired files (bodies_of files) (functions_from [] 0 files)
paired files = paired_from files [] [] 0 files (λ i g h. (let n : 0 + i ≡ i = omega arith in rw n h)) tt

pub paired_length : (files : List FileParts) (bs : List FileRow) (fs : List Function) → ArePaired files bs fs → length bs ≡ length fs
paired_length files [] [] p = refl
paired_length files [] (f ∷ fs) p = absurd p
paired_length files (b ∷ bs) [] p = absurd p
paired_length files (b ∷ bs) (f ∷ fs) p = ap suc (paired_length files bs fs p.1)

pub record HasFunction (files : List FileParts) (fs : List Function) (i : ℕ) (b : FileRow) : Type 0 where
  pub function : Function
  pub there : slice_get fs i ≡ Some function
  pub body : IsBody files b function

pub paired_at : (files : List FileParts) (bs : List FileRow) (fs : List Function) (i : ℕ) (b : FileRow) → ArePaired files bs fs → slice_get bs i ≡ Some b → HasFunction files fs i b
paired_at files [] [] i b p h = absurd cc
paired_at files [] (f ∷ fs) i b p h = absurd p
paired_at files (c ∷ cs) [] i b p h = absurd p
paired_at files (c ∷ cs) (f ∷ fs) zero b p h = let e : c ≡ b = cc in record { function = f; there = refl; body = subst (λ z. IsBody files z f) e p.0 }
paired_at files (c ∷ cs) (f ∷ fs) (suc i) b p h = let more = paired_at files cs fs i b p.1 h in record { function = more.function; there = more.there; body = more.body }

-- ---- each function with a body has its row

kept_in_file : (bs : List FileRow) (k : ℕ) (ts : List TypedFunction) (x : FileRow) → Among x bs → Among x (body_rows bs k ts)
kept_in_file bs k [] x m = m
kept_in_file bs k (t ∷ ts) x m = kept_in_file (bs ++ body_row k t ∷ []) k ts x (among_front x bs (body_row k t ∷ []) m)

has_body_in_file : (bs : List FileRow) (k : ℕ) (ts : List TypedFunction) (t : TypedFunction) → Among t ts → Among (body_row k t) (body_rows bs k ts)
has_body_in_file bs k [] t m = absurd m
has_body_in_file bs k (u ∷ us) t (inl q) = kept_in_file (bs ++ body_row k u ∷ []) k us (body_row k t) (subst (λ z. Among (body_row k t) (bs ++ body_row k z ∷ [])) q (among_last (body_row k t) bs))
has_body_in_file bs k (u ∷ us) t (inr m) = has_body_in_file (bs ++ body_row k u ∷ []) k us t m

kept : (bs : List FileRow) (k : ℕ) (fs : List FileParts) (x : FileRow) → Among x bs → Among x (bodies_from bs k fs)
kept bs k [] x m = m
kept bs k (f ∷ fs) x m = kept (body_rows bs k f.functions) (suc k) fs x (kept_in_file bs k f.functions x m)

has_body_from : (bs : List FileRow) (k : ℕ) (fs : List FileParts) (i : ℕ) (f : FileParts) (t : TypedFunction) → slice_get fs i ≡ Some f → Among t f.functions → Among (body_row (k + i) t) (bodies_from bs k fs)
has_body_from bs k [] i f t h m = absurd cc
has_body_from bs k (g ∷ gs) zero f t h m =
    let e : g ≡ f = cc in
    let n : k + 0 ≡ k = omega arith in
    rw n (kept (body_rows bs k g.functions) (suc k) gs (body_row k t) (has_body_in_file bs k g.functions t (subst (λ (z : FileParts). Among t z.functions) (sym e) m)))
has_body_from bs k (g ∷ gs) (suc i) f t h m = let n : k + suc i ≡ suc k + i = omega arith in rw n (has_body_from (body_rows bs k g.functions) (suc k) gs i f t h m)

pub has_body : (files : List FileParts) (k : ℕ) (f : FileParts) (t : TypedFunction) → slice_get files k ≡ Some f → Among t f.functions → Among (body_row k t) (bodies_of files)
has_body files k f t h m = let n : 0 + k ≡ k = omega arith in subst (λ z. Among (body_row z t) (bodies_of files)) n (has_body_from [] 0 files k f t h m)

-- ---- functions with bodies and declarations of functions

pub routine_among : (ts : List TypedFunction) (t : TypedFunction) → Among t ts → Among t.routine (routines_in ts)
routine_among [] t m = absurd m
routine_among (u ∷ us) t (inl q) = inl (ap (λ (z : TypedFunction). z.routine) q)
routine_among (u ∷ us) t (inr m) = inr (routine_among us t m)

pub record HasBody (ts : List TypedFunction) (r : ℕ) : Type 0 where
  pub typed : TypedFunction
  pub among : Among typed ts
  pub routine : typed.routine ≡ r

pub body_named : (ts : List TypedFunction) (r : ℕ) → Among r (routines_in ts) → HasBody ts r
body_named [] r m = absurd m
body_named (t ∷ ts) r (inl q) = record { typed = t; among = inl refl; routine = sym q }
body_named (t ∷ ts) r (inr m) = let more = body_named ts r m in record { typed = more.typed; among = inr more.among; routine = more.routine }

behind_routines : (b : Bool) (e : Entity) (ns : List ℕ) (r : ℕ) → Among r ns → Among r (before_routines b e ns)
behind_routines false (entity.Function n) ns r m = inr m
behind_routines b e ns r m = m

pub routine_defined : (ds : List FileDeclaration) (d : FileDeclaration) (r : ℕ) → Among d ds → d.entity ≡ entity.Function r → is_reference d.role ≡ false → Among r (defined_routines ds)
routine_defined [] d r m e h = absurd m
routine_defined (x ∷ xs) d r (inl q) e h =
    subst (λ (z : FileDeclaration). Among r (before_routines (is_reference z.role) z.entity (defined_routines xs))) q
    (subst (λ z. Among r (before_routines z d.entity (defined_routines xs))) (sym h) (subst (λ z. Among r (before_routines false z (defined_routines xs))) (sym e) (inl refl)))
routine_defined (x ∷ xs) d r (inr m) e h = behind_routines (is_reference x.role) x.entity (defined_routines xs) r (routine_defined xs d r m e h)

pub record HasDeclaration (ds : List FileDeclaration) (r : ℕ) : Type 0 where
  pub declaration : FileDeclaration
  pub among : Among declaration ds
  pub routine : declaration.entity ≡ entity.Function r

pub declared_routine : (ds : List FileDeclaration) (r : ℕ) → Among r (defined_routines ds) → HasDeclaration ds r
declared_routine [] r m = absurd m
declared_routine (x ∷ xs) r m = by (is_reference x.role) x.entity refl m (declared_routine xs r)
  where
    later : HasDeclaration xs r → HasDeclaration (x ∷ xs) r
    later more = record { declaration = more.declaration; among = inr more.among; routine = more.routine }

    by : (b : Bool) (e : Entity) → x.entity ≡ e → Among r (before_routines b e (defined_routines xs)) → (Among r (defined_routines xs) → HasDeclaration xs r) → HasDeclaration (x ∷ xs) r
    by false (entity.Function n) q (inl p) f = record { declaration = x; among = inl refl; routine = q ∙ ap entity.Function (sym p) }
    by false (entity.Function n) q (inr m) f = later (f m)
    by b e q m f = later (f m)
