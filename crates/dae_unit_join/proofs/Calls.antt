-- Each function that a file calls is there, with as many parameters; and main is there, with none.
use Rattle.std.proofs.Common.{◌≡◌, ◌≢◌, ℕ, zero, suc, ◌+◌, ◌^◌, ◌<◌, ◌≤◌, Bool, true, false, ◌&&◌, ◌||◌, inl, inr, List, [], ◌∷◌, length, Option, Some, None, refl, sym, ap, subst, ◌∙◌, arith}
use Rattle.std.proofs.lemmas.Bool.{false≢true, and_parts, ltb-true}
use Rattle.std.proofs.lemmas.Bool.Decides.{nat_tests}
use Rattle.std.specs.Prelude.{slice_get, nat_eq, not, is_some, if◌then◌else◌, codes}
use Rattle.std.specs.List.{list_any, AllByRecursion}
use Rattle.std.specs.Str.{bytes_eq}
use Rattle.dae_types_kinds.specs.declared.tables.Entity.{Entity}
use Rattle.dae_types_kinds.specs.declared.tables.Entity.TheVariants as entity
use Rattle.dae_types_kinds.specs.declared.tables.Routine.{Routine}
use Rattle.dae_types_kinds.specs.Types as types
use Rattle.dae_types_kinds.specs.Types.{shape_of}
use Rattle.dae_types_kinds.specs.Values as values
use Rattle.dae_types_plans.specs.Steps.{parameter_types}
use Rattle.dae_program.specs.declared.program.Function.{Function}
use Rattle.dae_program.specs.declared.program.Links.{Links}
use Rattle.dae_program.specs.Lawful.{parameter_count, is_lawful_body}
use Rattle.dae_program.specs.Resolved.{address_in, callee_in, number_or}
use Rattle.dae_types_typed.specs.declared.files.FileParts.{FileParts}
use Rattle.dae_types_typed.specs.declared.files.TypedFunction.{TypedFunction}
use Rattle.dae_types_typed.specs.Linkage.{is_function, name_in, routine_name, routine_type, same_name, type_in}
use Rattle.dae_types_typed.specs.Sound.{tables_of, bytes_or, routine_named, is_called_main, is_used, is_there, is_sound_function, function_at, IsSound, IsSoundDeclaration, AreCallable}
use Rattle.dae_unit.specs.declared.rows.FileRow.{FileRow}
use Rattle.dae_unit.specs.Across.{same_across}
use Rattle.dae_unit.specs.Linkage.{entity_of, refers, is_one, external_name, rows_of}
use Rattle.dae_unit.specs.Meanings.{body_row, bodies_of, functions_from, function_number, number_from, links_of}
use Rattle.dae_unit_join.specs.Joined.{placed_in, places_in}
use Rattle.dae_unit_join.proofs.Among.{Among, among_any, all_among, passes_among}
use Rattle.dae_unit_join.proofs.Bodies.{paired, paired_at, has_body, routine_among, body_named, routine_defined, HasDeclaration, declared_routine}
use Rattle.dae_unit_join.proofs.Causes.{HasNoCause}
use Rattle.dae_unit_join.proofs.Links.{number_at}
use Rattle.dae_unit_join.proofs.Numbers.{found_first, number_first}
use Rattle.dae_unit_join.proofs.Ones.{AreRelated, name_at}
use Rattle.dae_unit_join.proofs.Parameters.{count_of, parameters_alike}
use Rattle.dae_unit_join.proofs.Room.{have_room, linked}
use Rattle.dae_unit_join.proofs.Rows.{row, IsRow, rows_sound, file_sound, has_row}
use Rattle.dae_unit_join.proofs.Uses.{declared, given, one_of}

-- ---- names

name_is : (f : FileParts) (n : ℕ) (x : List ℕ) → name_in f (entity.Function n) ≡ Some x → routine_named f.names (slice_get f.routines n) ≡ x
name_is f n x h = by (slice_get f.routines n) h
  where
    last : (b : Bool) (o : Option (List ℕ)) → (if b then None else o) ≡ Some x → bytes_or o ≡ x
    last true o h = absurd cc
    last false None h = absurd cc
    last false (Some y) h = cc

    by : (o : Option Routine) → routine_name f o ≡ Some x → routine_named f.names o ≡ x
    by None h = absurd cc
    by (Some r) h = last (r.own || is_some r.library) (slice_get f.names r.name) h

-- a function that other files know as main is called so
pub known_as_main : (f : FileParts) (n : ℕ) → same_name (name_in f (entity.Function n)) (Some (codes "main")) ≡ true → is_called_main f n ≡ true
known_as_main f n h = by (name_in f (entity.Function n)) refl h
  where
    by : (o : Option (List ℕ)) → name_in f (entity.Function n) ≡ o → same_name o (Some (codes "main")) ≡ true → bytes_eq (routine_named f.names (slice_get f.routines n)) (codes "main") ≡ true
    by None e h = absurd (false≢true h)
    by (Some x) e h = subst (λ y. bytes_eq y (codes "main") ≡ true) (sym (name_is f n x e)) h

function_if : (x : Entity) → is_function x ≡ true → (r : ℕ) × (x ≡ entity.Function r)
function_if (entity.Function r) h = (r, refl)
function_if x h = absurd (false≢true h)

-- ---- how many parameters

within_some : {A : Type 0} (xs : List A) (n : ℕ) → n < length xs → slice_get xs n ≢ None
within_some [] n h e = absurd (omega arith)
within_some (x ∷ xs) zero h e = cc
within_some (x ∷ xs) (suc n) h e = within_some xs n (omega arith) e

types_by : (f : FileParts) (n : ℕ) → is_there f (entity.Function n) ≡ true → length (parameter_types (tables_of f) n) ≡ count_of f (type_in f (entity.Function n))
unfolding parameter_types
types_by f n h = by (slice_get f.routines n) refl
  where
    by : (o : Option Routine) → slice_get f.routines n ≡ o → count_of f (values.routine_type o) ≡ count_of f (routine_type o)
    by None e = absurd (within_some f.routines n (ltb-true n (length f.routines) h) e)
    by (Some r) e = refl

same_across_count : (f g : FileParts) → IsSound f → IsSound g → (m n : ℕ) → types.is_function (shape_of (tables_of f) m) ≡ true → types.is_function (shape_of (tables_of g) n) ≡ true → same_across f g m n ≡ true → count_of f m ≡ count_of g n
unfolding same_across
same_across_count f g sf sg m n kf kg h = parameters_alike f g sf sg (length f.shapes) m n kf kg h

same_count : (f g : FileParts) (m n : ℕ) → IsSound f → IsSound g → is_there f (entity.Function m) ≡ true → is_there g (entity.Function n) ≡ true → types.is_function (shape_of (tables_of f) (type_in f (entity.Function m))) ≡ true → types.is_function (shape_of (tables_of g) (type_in g (entity.Function n))) ≡ true → AreRelated f g (entity.Function m) (entity.Function n) → length (parameter_types (tables_of f) m) ≡ length (parameter_types (tables_of g) n)
same_count f g m n sf sg tf tg kf kg rel = types_by f m tf ∙ (by rel ∙ sym (types_by g n tg))
  where
    by : AreRelated f g (entity.Function m) (entity.Function n) → count_of f (type_in f (entity.Function m)) ≡ count_of g (type_in g (entity.Function n))
    by (inl e) = ap (λ z. count_of f (type_in f z)) e.1 ∙ ap (λ z. count_of z (type_in z (entity.Function n))) e.0
    by (inr (inl h)) = same_across_count f g sf sg (type_in f (entity.Function m)) (type_in g (entity.Function n)) kf kg h
    by (inr (inr h)) = sym (same_across_count g f sg sf (type_in g (entity.Function n)) (type_in f (entity.Function m)) kg kf h)

module _ (files : List FileParts) (memory : ℕ) (sounds : AllByRecursion IsSound files) (no : HasNoCause files memory) (small : memory ≤ 2 ^ 26) where
  abbrev pub links : List Links
  links = links_of files (placed_in files) (bodies_of files) (places_in files)

  abbrev pub functions : List Function
  functions = functions_from [] 0 files

  -- how many parameters a file's functions have
  abbrev pub parameters_by : ℕ → ℕ → Option ℕ
  parameters_by k n = parameter_count (slice_get functions (callee_in (length functions) (slice_get links k) n))

  -- a declaration of a function that is no mere reference has a body
  pub record HasRowBody (y : FileRow) (g : FileParts) : Type 0 where
    pub typed : TypedFunction
    pub among : Among typed g.functions
    pub named : entity_of y ≡ entity.Function typed.routine

  pub row_body : (y : FileRow) (r : IsRow files y) → refers y ≡ false → is_function (entity_of y) ≡ true → HasRowBody y r.parts
  row_body y r room kind =
      let fn = function_if (entity_of y) kind in
      let g = r.parts in
      let sg = r.sound in
      let named = body_named g.functions fn.0 (subst (Among fn.0) (sym sg.functions) (routine_defined g.declarations y.declaration fn.0 r.among fn.1 room)) in
      record { typed = named.typed; among = named.among; named = fn.1 ∙ ap entity.Function (sym named.routine) }

  -- a function with a body has as many parameters as its type says
  body_count : (j : ℕ) (g : FileParts) (t : TypedFunction) → slice_get files j ≡ Some g → Among t g.functions → length t.parameters ≡ length (parameter_types (tables_of g) t.routine)
  body_count j g t h m =
      let sg = file_sound files j g sounds h in
      let address = address_in (slice_get links j) in
      let counts : ℕ → Option ℕ = λ c. Some (length (parameter_types (tables_of g) c)) in
      let all = sg.bodies memory address counts small (have_room files memory sounds no small j g h) (λ n used. refl) in
      let one = passes_among (is_sound_function g memory address counts) t g.functions all m in
      let parts = and_parts (nat_eq (length t.parameters) (length (parameter_types (tables_of g) t.routine)) && is_lawful_body memory t.variables counts true (function_at address t)) (not (is_called_main g t.routine) || (nat_eq (length t.parameters) 0 && is_lawful_body memory t.variables counts false (function_at address t))) one in
      let first = (and_parts (nat_eq (length t.parameters) (length (parameter_types (tables_of g) t.routine))) (is_lawful_body memory t.variables counts true (function_at address t)) parts.0).0 in
      grind (arith, nat_tests, first)

  -- a function with a body is declared
  body_declared : (j : ℕ) (g : FileParts) (t : TypedFunction) → slice_get files j ≡ Some g → Among t g.functions → HasDeclaration g.declarations t.routine
  body_declared j g t h m = let sg = file_sound files j g sounds h in declared_routine g.declarations t.routine (subst (Among t.routine) sg.functions (routine_among g.functions t m))

  has_body_row : (k : ℕ) (f : FileParts) (n : ℕ) → slice_get files k ≡ Some f → is_used f.uses (entity.Function n) ≡ true → list_any (λ (d : FileRow). is_one files k (entity.Function n) d.file (entity_of d)) (bodies_of files) ≡ true
  has_body_row k f n h used =
      let sf = file_sound files k f sounds h in
      let d = declared f (entity.Function n) (sf.uses (entity.Function n) used) in
      let g = given files k f (entity.Function n) no.uses h used (sf.calls n used).0 in
      let r = all_among (IsRow files) g.giver (rows_of files) (rows_sound files sounds) g.among in
      let one = one_of files no.types k f (entity.Function n) h sf d g.giver r g.among g.one in
      let body = row_body g.giver r g.room (sym one.kind) in
      let y = g.giver in
      among_any (λ (d : FileRow). is_one files k (entity.Function n) d.file (entity_of d)) (body_row y.file body.typed) (bodies_of files) (has_body files y.file r.parts body.typed r.file body.among)
      (subst (λ z. is_one files k (entity.Function n) y.file z ≡ true) body.named g.one)

  number_is : (k : ℕ) (f : FileParts) (n : ℕ) → slice_get files k ≡ Some f → is_called_main f n ≡ false → function_number files (bodies_of files) k (entity.Function n) ≡ number_from files 0 k (entity.Function n) (bodies_of files)
  unfolding function_number
  number_is k f n h other = by (same_name (external_name files k (entity.Function n)) (Some (codes "main"))) refl
    where
      by : (b : Bool) → same_name (external_name files k (entity.Function n)) (Some (codes "main")) ≡ b → (if b then length (bodies_of files) else number_from files 0 k (entity.Function n) (bodies_of files)) ≡ number_from files 0 k (entity.Function n) (bodies_of files)
      by false e = refl
      by true e = absurd (false≢true (sym other ∙ known_as_main f n (subst (λ z. same_name z (Some (codes "main")) ≡ true) (name_at files k f (entity.Function n) h) e)))

  callee_is : (k : ℕ) (f : FileParts) (n i : ℕ) → slice_get files k ≡ Some f → is_there f (entity.Function n) ≡ true → function_number files (bodies_of files) k (entity.Function n) ≡ i → callee_in (length functions) (slice_get links k) n ≡ i
  callee_is k f n i h there same =
      let link = linked files memory sounds no small k f h in
      ap (λ o. callee_in (length functions) o n) link.there
      ∙ (ap (number_or (length functions)) (number_at files (bodies_of files) k f.routines n (ltb-true n (length f.routines) there)) ∙ same)

  pub callable : (k : ℕ) (f : FileParts) → slice_get files k ≡ Some f → AreCallable f (parameters_by k)
  callable k f h n used =
      let sf = file_sound files k f sounds h in
      let d = declared f (entity.Function n) (sf.uses (entity.Function n) used) in
      let sd = all_among (IsSoundDeclaration f) d.declaration f.declarations sf.declarations d.among in
      let there : is_there f (entity.Function n) ≡ true = subst (λ z. is_there f z ≡ true) d.entity sd.there in
      let kind : types.is_function (shape_of (tables_of f) (type_in f (entity.Function n))) ≡ true = subst (λ z. types.is_function (shape_of (tables_of f) (type_in f z)) ≡ is_function z) d.entity sd.kind in
      let found = found_first (λ (d : FileRow). is_one files k (entity.Function n) d.file (entity_of d)) 0 (bodies_of files) (has_body_row k f n h used) in
      let fn = paired_at files (bodies_of files) functions found.index found.row (paired files) found.there in
      let b = fn.body in
      let j = b.file in
      let g = b.parts in
      let t = b.typed in
      let sg = file_sound files j g sounds b.there in
      let e = body_declared j g t b.there b.among in
      let se = all_among (IsSoundDeclaration g) e.declaration g.declarations sg.declarations e.among in
      let y = row j e.declaration in
      let one : is_one files k (entity.Function n) j (entity.Function t.routine) ≡ true = subst (λ (z : FileRow). is_one files k (entity.Function n) z.file (entity_of z) ≡ true) b.row found.passes in
      let same : is_one files k (entity.Function n) j (entity_of y) ≡ true = subst (λ z. is_one files k (entity.Function n) j z ≡ true) (sym e.routine) one in
      let rel = one_of files no.types k f (entity.Function n) h sf d y (record { parts = g; file = b.there; sound = sg; among = e.among }) (has_row files j g e.declaration b.there e.among) same in
      let count = same_count f g n t.routine sf sg there (subst (λ z. is_there g z ≡ true) e.routine se.there) kind
      (subst (λ z. types.is_function (shape_of (tables_of g) (type_in g z)) ≡ is_function z) e.routine se.kind)
      (subst (λ z. AreRelated f g (entity.Function n) z) e.routine rel.relation) in
      let number : function_number files (bodies_of files) k (entity.Function n) ≡ found.index =
      number_is k f n h (sf.calls n used).1 ∙ (number_first files 0 k (entity.Function n) (bodies_of files) ∙ (let at = found.at in let z : 0 + found.index ≡ found.index = omega arith in at ∙ z)) in
      ap (λ c. parameter_count (slice_get functions c)) (callee_is k f n found.index h there number)
      ∙ (ap parameter_count fn.there ∙ (ap (λ (z : Function). Some (length z.parameters)) b.function ∙ ap Some (body_count j g t b.there b.among ∙ sym count)))
