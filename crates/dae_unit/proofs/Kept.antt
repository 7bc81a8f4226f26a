-- What is kept of rows, by identity and by name, is what the rows have.
use Rattle.std.proofs.Common.{◌≡◌, ℕ, suc, ◌+◌, ◌-◌, ◌<◌, ◌≤◌, Bool, true, false, ◌&&◌, ◌||◌, not, cond, List, [], ◌∷◌, ◌++◌, length, drop, reverse, get_or, Option, Some, None, refl, sym, ap, subst, ◌∙◌, if◌then◌else◌, arith}
use Rattle.std.proofs.lemmas.Bool.{false≢true, and_parts}
use Rattle.std.proofs.lemmas.Bool.Decides.{nat_tests}
use Rattle.std.proofs.lemmas.List.{drop_all, get_or_default}
use Rattle.std.proofs.lemmas.List.Folds.{list_any-append}
use Rattle.std.specs.Prelude.{find, nat_eq, Vec}
use Rattle.std.specs.Borrow.{Bor}
use Rattle.std.specs.declared.alloc.Global.{Global}
use Rattle.std.specs.List.{list_any}
use Rattle.std.specs.Map.{lookup}
use Rattle.std.specs.Option.{unwrap_or}
use Rattle.std.specs.Str.{bytes_eq}
use Rattle.dae_base.proofs.Laws.{drop_at, and_false, same_tests}
use Rattle.dae_types_kinds.specs.declared.tables.Entity.{Entity}
use Rattle.dae_types_kinds.specs.declared.tables.Entity.TheVariants as entity
use Rattle.dae_types_typed.specs.declared.files.FileParts.{FileParts}
use Rattle.dae_types_typed.specs.Linkage.{is_object}
use Rattle.dae_types_typed.specs.Sound.{same_entity}
use Rattle.dae_unit.specs.declared.errors.Clash.{Clash}
use Rattle.dae_unit.specs.declared.errors.Clash.TheVariants.{Definitions, Types}
use Rattle.dae_unit.specs.declared.identities.Identity.{Identity}
use Rattle.dae_unit.specs.declared.rows.FileRow.{FileRow}
use Rattle.dae_unit.specs.contracts.identities.IdentityPartialEq.TheImpl.{ghosts}
use Rattle.dae_unit.specs.Clashes.{clashes, first_clash, gives, name_of, types_differ}
use Rattle.dae_unit.specs.Identities.{IsIdentity, same_identity, AddsIdentity, AreGivers, AreDeclaredIn, PutsNumber, AreFirstNumbers}
use Rattle.dae_unit.specs.Later.{nearest, entry_of_name, is_called, AreNextDefinitions, AreLater, items_or_none, put_first}
use Rattle.dae_unit.specs.Linkage.{is_one, entity_of, declares_same, defines, refers}
use Rattle.dae_unit.specs.Meanings.{number_from}
use Rattle.dae_unit.specs.Placing.{gives_room, is_first}
use Rattle.dae_unit.proofs.Finding.{found_alike, none_found}
use Rattle.dae_unit.proofs.Same.{bytes_same, bytes_alike, entities_same, one_by_identity, nothing_is_one, equals_are_same}

-- ---- what is noted

cond_or : (b z : Bool) → cond b true z ≡ (b || z)
cond_or true z = refl
cond_or false z = refl

-- beside what was there, what the row declares
noted_any : (files : List FileParts) (d : FileRow) (r : Option Identity) (old new : List Identity) (fresh : Bool) → IsIdentity files d.file (entity_of d) r → AddsIdentity r old new fresh
    → (k : ℕ) (e : Entity) (i : Identity) → IsIdentity files k e (Some i) → list_any (same_identity i) new ≡ (is_one files k e d.file (entity_of d) || list_any (same_identity i) old)
noted_any files d None old new fresh h n k e i g = rw (n.0, one_by_identity files k e d.file (entity_of d) (Some i) None g h) refl
noted_any files d (Some c) old new fresh h n k e i g =
    n.among i ∙ cond_or (same_identity c i) (list_any (same_identity i) old)
    ∙ ap (λ b. b || list_any (same_identity i) old) (sym (one_by_identity files k e d.file (entity_of d) (Some i) (Some c) g h))

pub giver_noted : (files : List FileParts) (d : FileRow) (r : Option Identity) (old new : List Identity) (fresh : Bool) → refers d ≡ false → IsIdentity files d.file (entity_of d) r → AddsIdentity r old new fresh
    → (ds : List FileRow) → AreGivers files ds old → AreGivers files (d ∷ ds) new
unfolding gives
giver_noted files d r old new fresh fails h n ds all k e i g =
    noted_any files d r old new fresh h n k e i g
    ∙ ap (λ b. is_one files k e d.file (entity_of d) || b) (all k e i g)
    ∙ rw fails refl

pub no_giver : (files : List FileParts) (d : FileRow) (keys : List Identity) → refers d ≡ true → (ds : List FileRow) → AreGivers files ds keys → AreGivers files (d ∷ ds) keys
unfolding gives
no_giver files d keys holds ds all k e i g = all k e i g ∙ rw holds refl

-- ---- what has room

declared_any : (files : List FileParts) (d : FileRow) (done : List FileRow) (k : ℕ) (e : Entity) → list_any (λ (x : FileRow). is_one files k e x.file (entity_of x)) (done ++ d ∷ []) ≡ (is_one files k e d.file (entity_of d) || list_any (λ (x : FileRow). is_one files k e x.file (entity_of x)) done)
declared_any files d done k e =
    list_any-append (λ (x : FileRow). is_one files k e x.file (entity_of x)) done (d ∷ [])
    ∙ turned (list_any (λ (x : FileRow). is_one files k e x.file (entity_of x)) done) (is_one files k e d.file (entity_of d))
  where
    turned : (a b : Bool) → (a || (b || false)) ≡ (b || a)
    turned true true = refl
    turned true false = refl
    turned false true = refl
    turned false false = refl

object_is_known : (x : Entity) → is_object x ≡ true → same_entity x x ≡ true
object_is_known (entity.Object n) h = grind (arith, nat_tests)
object_is_known x h = absurd (false≢true h)

-- whether it is new says whether it is the first
pub fresh_is_first : (files : List FileParts) (d : FileRow) (r : Option Identity) (old new : List Identity) (fresh : Bool) → gives_room d ≡ true → IsIdentity files d.file (entity_of d) r → AddsIdentity r old new fresh
    → (done : List FileRow) → AreDeclaredIn files done old → fresh ≡ is_first files done d
unfolding is_first
fresh_is_first files d None old new fresh room h n done all = absurd (false≢true (sym h.1 ∙ object_is_known (entity_of d) (and_parts (is_object (entity_of d)) (not (refers d)) room).0))
fresh_is_first files d (Some c) old new fresh room h n done all = n.fresh ∙ ap not (all d.file (entity_of d) c h) ∙ rw room refl

chosen_seen : (files : List FileParts) (d : FileRow) (old new : List Identity) (fresh : Bool) (done : List FileRow) → (fresh ≡ false → new ≡ old) → AreDeclaredIn files done old
    → ((k : ℕ) (e : Entity) (i : Identity) → IsIdentity files k e (Some i) → list_any (same_identity i) new ≡ (is_one files k e d.file (entity_of d) || list_any (same_identity i) old))
    → AreDeclaredIn files (if fresh then done ++ d ∷ [] else done) new
chosen_seen files d old new true done same all more k e i g = more k e i g ∙ ap (λ b. is_one files k e d.file (entity_of d) || b) (all k e i g) ∙ sym (declared_any files d done k e)
chosen_seen files d old new false done same all more k e i g = ap (list_any (same_identity i)) (same refl) ∙ all k e i g

unchanged : (r : Option Identity) (old new : List Identity) (fresh : Bool) → AddsIdentity r old new fresh → fresh ≡ false → new ≡ old
unchanged None old new fresh n fails = n.0
unchanged (Some c) old new fresh n fails = n.same fails

pub room_noted : (files : List FileParts) (d : FileRow) (r : Option Identity) (old new : List Identity) (fresh : Bool) → gives_room d ≡ true → IsIdentity files d.file (entity_of d) r → AddsIdentity r old new fresh
    → (done : List FileRow) → AreDeclaredIn files done old → AreDeclaredIn files (if is_first files done d then done ++ d ∷ [] else done) new
room_noted files d r old new fresh room h n done all =
    subst (λ b. AreDeclaredIn files (if b then done ++ d ∷ [] else done) new) (fresh_is_first files d r old new fresh room h n done all)
    (chosen_seen files d old new fresh done (unchanged r old new fresh n) all (noted_any files d r old new fresh h n))

pub no_room : (files : List FileParts) (d : FileRow) → gives_room d ≡ false → (done : List FileRow) → false ≡ is_first files done d
unfolding is_first
no_room files d fails done = rw fails refl

pub no_room_noted : (files : List FileParts) (d : FileRow) (keys : List Identity) → gives_room d ≡ false → (done : List FileRow) → AreDeclaredIn files done keys → AreDeclaredIn files (if is_first files done d then done ++ d ∷ [] else done) keys
no_room_noted files d keys fails done all = subst (λ b. AreDeclaredIn files (if b then done ++ d ∷ [] else done) keys) (no_room files d fails done) all

-- ---- numbers

choose : (b : Bool) (o : Option ℕ) (n m end : ℕ) → unwrap_or o end ≡ m → unwrap_or (cond b (Some n) o) end ≡ (if b then n else m)
choose true o n m end h = refl
choose false o n m end h = h

pub next_numbered : (files : List FileParts) (rows : List FileRow) (n : ℕ) (d : FileRow) (r : Option Identity) (old new : List (Identity × ℕ)) → n < length rows → d ≡ get_or rows n d
    → IsIdentity files d.file (entity_of d) r → PutsNumber r n old new → AreFirstNumbers files rows (n + 1) old → AreFirstNumbers files rows n new
next_numbered files rows n d r old new lt is h put all k e i g =
    rw (drop_at rows n d lt is) (by r h put)
  where
    rest : unwrap_or (lookup (same_identity i) old) (length rows) ≡ number_from files (suc n) k e (drop (n + 1) rows)
    rest = let one : n + 1 ≡ suc n = omega arith in subst (λ m. unwrap_or (lookup (same_identity i) old) (length rows) ≡ number_from files m k e (drop (n + 1) rows)) one (all k e i g)

    by : (r : Option Identity) → IsIdentity files d.file (entity_of d) r → PutsNumber r n old new → unwrap_or (lookup (same_identity i) new) (length rows) ≡ (if is_one files k e d.file (entity_of d) then n else number_from files (suc n) k e (drop (n + 1) rows))
    by None h put = rw (put, one_by_identity files k e d.file (entity_of d) (Some i) None g h) rest
    by (Some c) h put =
        rw (one_by_identity files k e d.file (entity_of d) (Some i) (Some c) g h)
        (ap (λ o. unwrap_or o (length rows)) (put i) ∙ choose (same_identity c i) (lookup (same_identity i) old) n (number_from files (suc n) k e (drop (n + 1) rows)) (length rows) rest)

pub number_within : (files : List FileParts) (n k : ℕ) (e : Entity) (ds : List FileRow) → number_from files n k e ds ≤ n + length ds
number_within files n k e [] = omega arith
number_within files n k e (d ∷ ds) = by (is_one files k e d.file (entity_of d)) (number_within files (suc n) k e ds)
  where
    by : (b : Bool) → number_from files (suc n) k e ds ≤ suc n + length ds → (if b then n else number_from files (suc n) k e ds) ≤ n + suc (length ds)
    by true rest = omega arith
    by false rest = omega arith

-- the number that is found for an identity
pub found_number : (files : List FileParts) (rows : List FileRow) (k : ℕ) (e : Entity) (i : Identity) (entries : List (Identity × ℕ)) (o : Option ℕ) → IsIdentity files k e (Some i) → AreFirstNumbers files rows 0 entries
    → o ≡ lookup (ghosts.eq i) entries → unwrap_or o (length rows) ≡ number_from files 0 k e rows
found_number files rows k e i entries o h all found =
    ap (λ o. unwrap_or o (length rows)) (found ∙ ap (λ (eq : Identity → Identity → Bool). lookup (eq i) entries) equals_are_same) ∙ all k e i h

-- what is neither an object nor a function has no number
pub no_number : (files : List FileParts) (n k : ℕ) (e : Entity) → IsIdentity files k e None → (ds : List FileRow) → number_from files n k e ds ≡ n + length ds
no_number files n k e h [] = omega arith
no_number files n k e h (d ∷ ds) =
    let rest = no_number files (suc n) k e h ds in
    rw (nothing_is_one files k e d.file (entity_of d) h) (rest ∙ omega arith)

pub nothing_is_given : (files : List FileParts) (k : ℕ) (e : Entity) → IsIdentity files k e None → (ds : List FileRow) → list_any (gives files k e) ds ≡ false
unfolding gives
nothing_is_given files k e h [] = refl
nothing_is_given files k e h (d ∷ ds) = rw (nothing_is_one files k e d.file (entity_of d) h, nothing_is_given files k e h ds) (by (refers d))
  where
    by : (b : Bool) → ((not b && false) || false) ≡ false
    by true = refl
    by false = refl

-- ---- definitions of one name

turned_bytes : (x y : List ℕ) → bytes_eq x y ≡ bytes_eq y x
turned_bytes x y = same_tests (bytes_eq x y) (bytes_eq y x) (λ e. bytes_alike y x (sym (bytes_same x y e))) (λ e. bytes_alike x y (sym (bytes_same y x e)))

found_first : {X : Type 0} (b c : Bool) (x : X) (o p : Option X) → b ≡ c → o ≡ p → cond b (Some x) o ≡ cond c (Some x) p
found_first b c x o p h g = rw (h, g) refl

-- the next definition of a name is the one that a definition of it clashes with
pub clash_is_next : (files : List FileParts) (d : FileRow) (name : Bor (List ℕ)) (entries : List (Bor (List ℕ) × FileRow)) → defines d ≡ true → name_of files d ≡ Some name.now
    → (ds : List FileRow) → AreNextDefinitions files ds entries → entry_of_name entries name ≡ find (clashes files Definitions d) ds
unfolding clashes
clash_is_next files d name entries holds called ds all =
    all name ∙ sym (found_alike (clashes files Definitions d) (λ x. defines x && is_called files name x) (λ x. rw (holds, called) refl) ds)

pub next_noted : (files : List FileParts) (d : FileRow) (name : Bor (List ℕ)) (old new : List (Bor (List ℕ) × FileRow)) → defines d ≡ true → name_of files d ≡ Some name.now
    → ((q : Bor (List ℕ)) → entry_of_name new q ≡ cond (bytes_eq name.now q.now) (Some d) (entry_of_name old q))
    → (ds : List FileRow) → AreNextDefinitions files ds old → AreNextDefinitions files (d ∷ ds) new
next_noted files d name old new holds called put ds all q =
    put q ∙ found_first (bytes_eq name.now q.now) (defines d && is_called files q d) d (entry_of_name old q) (find (λ x. defines x && is_called files q x) ds)
    (turned_bytes name.now q.now ∙ rw (holds, called) refl) (all q)

pub no_definition_clashes : (files : List FileParts) (d : FileRow) → defines d ≡ false → (ds : List FileRow) → None ≡ find (clashes files Definitions d) ds
unfolding clashes
no_definition_clashes files d fails ds = sym (none_found (clashes files Definitions d) (λ x. rw fails refl) ds)

pub no_name_clashes : (files : List FileParts) (d : FileRow) → name_of files d ≡ None → (ds : List FileRow) → None ≡ find (clashes files Definitions d) ds
unfolding clashes
no_name_clashes files d fails ds = sym (none_found (clashes files Definitions d) (λ x. rw fails (and_false (defines d && defines x))) ds)

-- a clash with a declaration stands before those behind it
pub nearest_is_first : (files : List FileParts) (clash : Clash) (d : FileRow) (ds : List FileRow) → nearest d (find (clashes files clash d) ds) (first_clash files clash ds) ≡ first_clash files clash (d ∷ ds)
nearest_is_first files clash d ds = by (find (clashes files clash d) ds)
  where
    by : (o : Option FileRow) → nearest d o (first_clash files clash ds) ≡ (elim o [ None ↦ first_clash files clash ds | Some e ↦ Some (d, e) ])
    by None = refl
    by (Some e) = refl

-- ---- types of one name

pub difference_is_next : (files : List FileParts) (d : FileRow) (name : Bor (List ℕ)) (entries : List (Bor (List ℕ) × Vec FileRow Global)) → name_of files d ≡ Some name.now
    → (ds : List FileRow) → AreLater files ds entries → find (types_differ files d) (reverse (items_or_none (entry_of_name entries name))) ≡ find (clashes files Types d) ds
unfolding clashes
difference_is_next files d name entries called ds all =
    all name d ∙ sym (found_alike (clashes files Types d) (λ x. is_called files name x && types_differ files d x) (λ x. rw called refl) ds)

-- declarations of one object or function of one file have one type
one_type : (files : List FileParts) (x y d : FileRow) → declares_same y d ≡ true → types_differ files x y ≡ types_differ files x d
one_type files x y d h =
    let parts = and_parts (nat_eq y.file d.file) (same_entity (entity_of y) (entity_of d)) h in
    let file : y.file ≡ d.file = grind (arith, nat_tests, parts.0) in
    let things = entities_same (entity_of y) (entity_of d) parts.1 in
    rw (file, things) refl

put_finds : (files : List FileParts) (x d : FileRow) (ys : List FileRow) → find (types_differ files x) (put_first d ys) ≡ cond (types_differ files x d) (Some d) (find (types_differ files x) ys)
put_finds files x d [] = refl
put_finds files x d (y ∷ ys) = by (declares_same y d) refl
  where
    again : (b : Bool) (o : Option FileRow) → cond b (Some d) o ≡ cond b (Some d) (cond b (Some y) o)
    again true o = refl
    again false o = refl

    by : (b : Bool) → declares_same y d ≡ b → find (types_differ files x) (if b then d ∷ ys else d ∷ (y ∷ ys)) ≡ cond (types_differ files x d) (Some d) (find (types_differ files x) (y ∷ ys))
    by true h = rw (one_type files x y d h) (again (types_differ files x d) (find (types_differ files x) ys))
    by false h = refl

called_finds : (b c : Bool) (d : FileRow) (o : Option FileRow) → b ≡ true → cond c (Some d) o ≡ cond (b && c) (Some d) o
called_finds b c d o h = rw h refl

other_finds : (b c : Bool) (d : FileRow) (o : Option FileRow) → b ≡ false → o ≡ cond (b && c) (Some d) o
other_finds b c d o h = rw h refl

-- what is put in place of what was taken
pub put_again : {X : Type 0} (b : Bool) (v : X) (o : Option X) → cond b (Some v) (cond b None o) ≡ cond b (Some v) o
put_again true v o = refl
put_again false v o = refl

pub later_noted : (files : List FileParts) (d : FileRow) (name : Bor (List ℕ)) (old new : List (Bor (List ℕ) × Vec FileRow Global)) (v : Vec FileRow Global) → name_of files d ≡ Some name.now
    → reverse v.items ≡ put_first d (reverse (items_or_none (entry_of_name old name)))
    → ((q : Bor (List ℕ)) → entry_of_name new q ≡ cond (bytes_eq name.now q.now) (Some v) (entry_of_name old q))
    → (ds : List FileRow) → AreLater files ds old → AreLater files (d ∷ ds) new
later_noted files d name old new v called first put ds all q x = by (bytes_eq name.now q.now) refl
  where
    found : Option FileRow
    found = find (λ y. is_called files q y && types_differ files x y) ds

    same : bytes_eq name.now q.now ≡ is_called files q d
    same = turned_bytes name.now q.now ∙ rw called refl

    by : (b : Bool) → bytes_eq name.now q.now ≡ b → find (types_differ files x) (reverse (items_or_none (entry_of_name new q))) ≡ cond (is_called files q d && types_differ files x d) (Some d) found
    by true h =
        let one : name.now ≡ q.now = bytes_same name.now q.now h in
        let at : entry_of_name old name ≡ entry_of_name old q = ap (λ n. lookup (λ (k : Bor (List ℕ)). bytes_eq n k.now) old) one in
        rw (put q, h) (
        ap (find (types_differ files x)) (first ∙ ap (λ o. put_first d (reverse (items_or_none o))) at)
        ∙ put_finds files x d (reverse (items_or_none (entry_of_name old q)))
        ∙ ap (λ o. cond (types_differ files x d) (Some d) o) (all q x)
        ∙ called_finds (is_called files q d) (types_differ files x d) d found (sym same ∙ h))
    by false h = rw (put q, h) (all q x ∙ other_finds (is_called files q d) (types_differ files x d) d found (sym same ∙ h))

pub no_name_differs : (files : List FileParts) (d : FileRow) → name_of files d ≡ None → (ds : List FileRow) → None ≡ find (clashes files Types d) ds
unfolding clashes
no_name_differs files d fails ds = sym (none_found (clashes files Types d) (λ x. rw fails refl) ds)

-- ---- loops from the end

pub none_given : (files : List FileParts) (rows : List FileRow) (keys : List Identity) → keys ≡ [] → AreGivers files (drop (length rows) rows) keys
none_given files rows keys h k e i g = rw (h, drop_all (length rows) rows (omega arith)) refl

pub none_numbered : (files : List FileParts) (rows : List FileRow) (entries : List (Identity × ℕ)) → entries ≡ [] → AreFirstNumbers files rows (length rows) entries
none_numbered files rows entries h k e i g = rw (h, drop_all (length rows) rows (omega arith)) refl

pub none_next : (files : List FileParts) (rows : List FileRow) (entries : List (Bor (List ℕ) × FileRow)) → entries ≡ [] → AreNextDefinitions files (drop (length rows) rows) entries
none_next files rows entries h q = rw (h, drop_all (length rows) rows (omega arith)) refl

pub none_later : (files : List FileParts) (rows : List FileRow) (entries : List (Bor (List ℕ) × Vec FileRow Global)) → entries ≡ [] → AreLater files (drop (length rows) rows) entries
none_later files rows entries h q x = rw (h, drop_all (length rows) rows (omega arith)) refl

pub no_clash_yet : (files : List FileParts) (clash : Clash) (rows : List FileRow) → None ≡ first_clash files clash (drop (length rows) rows)
no_clash_yet files clash rows = rw (drop_all (length rows) rows (omega arith)) refl

-- one row more, that before the first j
module _ (files : List FileParts) (rows : List FileRow) (j : ℕ) (x : FileRow) (some : 0 < j) (le : j ≤ length rows) where
  abbrev row : FileRow
  row = get_or rows (j - 1) x

  row_is : row ≡ get_or rows (j - 1) row
  row_is = get_or_default rows (j - 1) x row (omega arith)

  back : drop (j - 1) rows ≡ row ∷ drop j rows
  back =
      let same : j - 1 + 1 ≡ j = omega arith in
      drop_at rows (j - 1) row (omega arith) row_is ∙ ap (λ (i : ℕ). row ∷ drop i rows) same

  pub giver_back : (old new : List Identity) → ((ds : List FileRow) → AreGivers files ds old → AreGivers files (row ∷ ds) new) → AreGivers files (drop j rows) old → AreGivers files (drop (j - 1) rows) new
  giver_back old new step all = subst (λ ds. AreGivers files ds new) (sym back) (step (drop j rows) all)

  pub next_back : (old new : List (Bor (List ℕ) × FileRow)) → ((ds : List FileRow) → AreNextDefinitions files ds old → AreNextDefinitions files (row ∷ ds) new)
      → AreNextDefinitions files (drop j rows) old → AreNextDefinitions files (drop (j - 1) rows) new
  next_back old new step all = subst (λ ds. AreNextDefinitions files ds new) (sym back) (step (drop j rows) all)

  pub later_back : (old new : List (Bor (List ℕ) × Vec FileRow Global)) → ((ds : List FileRow) → AreLater files ds old → AreLater files (row ∷ ds) new)
      → AreLater files (drop j rows) old → AreLater files (drop (j - 1) rows) new
  later_back old new step all = subst (λ ds. AreLater files ds new) (sym back) (step (drop j rows) all)

  pub clash_back : (clash : Clash) (other : Option FileRow) (old new : Option (FileRow × FileRow)) → other ≡ find (clashes files clash row) (drop j rows) → new ≡ nearest row other old
      → old ≡ first_clash files clash (drop j rows) → new ≡ first_clash files clash (drop (j - 1) rows)
  clash_back clash other old new this made so_far =
      made ∙ rw (this, so_far, back) (nearest_is_first files clash row (drop j rows))

  pub number_back : (r : Option Identity) (old new : List (Identity × ℕ)) → IsIdentity files row.file (entity_of row) r → PutsNumber r (j - 1) old new
      → AreFirstNumbers files rows j old → AreFirstNumbers files rows (j - 1) new
  number_back r old new h put all =
      let same : j ≡ j - 1 + 1 = omega arith in
      next_numbered files rows (j - 1) row r old new (omega arith) row_is h put (subst (λ n. AreFirstNumbers files rows n old) same all)
